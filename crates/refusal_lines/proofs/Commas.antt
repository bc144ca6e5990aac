-- Positions with commas between them, one after another.
use Rattle.std.proofs.Common.{◌≡◌, ◌∙◌, ℕ, ◌≤◌, List, [], ◌∷◌, ◌++◌, length, take, sym, ap, append_assoc}
use Rattle.std.specs.Prelude.{decimal, flat_map}
use Rattle.std.proofs.lemmas.List.{append-nil, take_all}
use Rattle.refusal_lines.specs.Makers.{places_words}

-- the first position, and after it each other with its comma
first_and_others : (p : ℕ) (ps : List ℕ) → places_words (p ∷ ps) ≡ decimal p ++ flat_map (λ q. 44 ∷ decimal q) ps
first_and_others p [] = sym (append-nil (decimal p))
first_and_others p (q ∷ qs) = ap (λ t. decimal p ++ (44 ∷ t)) (first_and_others q qs)

-- once each other position has been written, all of them have
pub all_written : (before first after : List ℕ) (p : ℕ) (ps : List ℕ) (i : ℕ) → length ps ≤ i → first ≡ before ++ decimal p
    → after ≡ first ++ flat_map (λ q. 44 ∷ decimal q) (take i ps) → after ≡ before ++ places_words (p ∷ ps)
all_written before first after p ps i past h k =
    let others = flat_map (λ q. 44 ∷ decimal q) ps in
    k ∙ (λ j. h j ++ flat_map (λ q. 44 ∷ decimal q) (take_all i ps past j)) ∙ append_assoc before (decimal p) others
    ∙ sym (ap (λ t. before ++ t) (first_and_others p ps))
