-- Numbers after their labels, one by one.
use Rattle.std.proofs.Common.{◌≡◌, ◌∙◌, ℕ, ◌≤◌, List, [], ◌∷◌, ◌++◌, length, take, sym, ap, append_assoc}
use Rattle.std.specs.Prelude.{decimal, flat_map, fold}
use Rattle.std.specs.Borrow.{Bor}
use Rattle.std.proofs.lemmas.List.{append-nil, take_all}
use Rattle.refusal_lines.specs.Fields.{fields_words}

-- a number after its label
abbrev pub field_words : Bor (List ℕ) × ℕ → List ℕ
field_words field = field.0.now ++ decimal field.1

each_in_turn : (front : List ℕ) (fields : List (Bor (List ℕ) × ℕ)) → fold (λ front field. front ++ field.0.now ++ decimal field.1) front fields ≡ front ++ flat_map field_words fields
each_in_turn front [] = sym (append-nil front)
each_in_turn front (field ∷ fields) =
    let label = field.0.now in
    let number = decimal field.1 in
    let rest = flat_map field_words fields in
    each_in_turn (front ++ label ++ number) fields ∙ append_assoc (front ++ label) number rest ∙ append_assoc front label (number ++ rest)
    ∙ ap (λ t. front ++ t) (sym (append_assoc label number rest))

-- once each number has been written, all of them have
pub all_fields : (before after : List ℕ) (fields : List (Bor (List ℕ) × ℕ)) (i : ℕ) → length fields ≤ i
    → after ≡ before ++ flat_map field_words (take i fields) → after ≡ before ++ fields_words fields
all_fields before after fields i past h =
    h ∙ ap (λ fs. before ++ flat_map field_words fs) (take_all i fields past) ∙ ap (λ rest. before ++ rest) (sym (each_in_turn [] fields))
