-- Lists that grow by the next number, where it passes a test.
use Rattle.std.proofs.Common.{◌≡◌, ℕ, ◌+◌, Bool, true, false, List, [], ◌∷◌, ◌++◌, map, ap, ◌∙◌, sym, append-nil, cond}
use Rattle.std.specs.Prelude.{filter}
use Rattle.std.proofs.lemmas.List.{map-append}
use Rattle.std.proofs.lemmas.List.Elements.{filter-append}
use Rattle.rail_model.specs.Checks.{below}
use Rattle.forbidden_states.proofs.Growing.{below-next}

filter-next : (q : ℕ → Bool) (n : ℕ) → filter q (below (n + 1)) ≡ filter q (below n) ++ cond (q n) (n ∷ []) []
filter-next q n = ap (filter q) (below-next n) ∙ filter-append q (below n) (n ∷ [])

pub passed-next : {X : Type 0} (f : ℕ → X) (q : ℕ → Bool) (n : ℕ) (before after : List X) (x : X) →
    before ≡ map f (filter q (below n)) → q n ≡ true → after ≡ before ++ x ∷ [] → x ≡ f n →
    after ≡ map f (filter q (below (n + 1)))
passed-next f q n before after x listed passes pushed value =
    pushed ∙ ap (λ xs. xs ++ x ∷ []) listed ∙ ap (λ y. map f (filter q (below n)) ++ y ∷ []) value
    ∙ sym (map-append f (filter q (below n)) (n ∷ []))
    ∙ ap (λ b. map f (filter q (below n) ++ cond b (n ∷ []) [])) (sym passes) ∙ ap (map f) (sym (filter-next q n))

pub skipped-next : {X : Type 0} (f : ℕ → X) (q : ℕ → Bool) (n : ℕ) (list : List X) →
    list ≡ map f (filter q (below n)) → q n ≡ false → list ≡ map f (filter q (below (n + 1)))
skipped-next f q n list listed fails =
    listed ∙ ap (map f) (sym (append-nil (filter q (below n))))
    ∙ ap (λ b. map f (filter q (below n) ++ cond b (n ∷ []) [])) (sym fails)
    ∙ ap (map f) (sym (filter-next q n))
