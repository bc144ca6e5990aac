-- What a step for each item makes of a list.
use Rattle.std.proofs.Common.{◌≡◌, ℕ, zero, suc, ◌+◌, ◌<◌, List, [], ◌∷◌, length, get_or, map, All, Result, Ok, Err, refl, sym, ap, subst, ◌∙◌, arith}
use Rattle.std.proofs.lemmas.List.Elements.{All-head, All-tail}
use Rattle.rail_model.specs.Turns.{in_turn}
use Rattle.document_shapes.specs.Each.{each_from}

-- The first was not refused, and neither was what came next.
pub record GoesOn {A B E : Type 0} (r : Result A E) (next : A → Result B E) (b : B) : Type 0 where
  pub value : A
  pub first : r ≡ Ok value
  pub behind : next value ≡ Ok b

pub in_turn-ok : {A B E : Type 0} (r : Result A E) (next : A → Result B E) (b : B) → in_turn r next ≡ Ok b → GoesOn r next b
in_turn-ok (Ok a) next b h = record { value = a; first = refl; behind = h }
in_turn-ok (Err e) next b h = absurd cc

module _ {A B E : Type 0} (step : ℕ → A → Result B E) where
  -- The steps for the head and for the rest.
  record Parts (t : ℕ) (x : A) (xs : List A) (ys : List B) : Type 0 where
    head : B
    tail : List B
    first : step t x ≡ Ok head
    rest : each_from step (t + 1) xs ≡ Ok tail
    whole : head ∷ tail ≡ ys

  parts : (t : ℕ) (x : A) (xs : List A) (ys : List B) → each_from step t (x ∷ xs) ≡ Ok ys → Parts t x xs ys
  parts t x xs ys h =
      let one = in_turn-ok (step t x) (λ y. in_turn (each_from step (t + 1) xs) (λ zs. Ok (y ∷ zs))) ys h in
      let more = in_turn-ok (each_from step (t + 1) xs) (λ zs. Ok (one.value ∷ zs)) ys one.behind in
      record { head = one.value; tail = more.value; first = one.first; rest = more.first; whole = let e = more.behind in cc }

  pub each-length : (t : ℕ) (xs : List A) (ys : List B) → each_from step t xs ≡ Ok ys → length ys ≡ length xs
  each-length t [] ys h = let e : [] ≡ ys = cc in ap length (sym e)
  each-length t (x ∷ xs) ys h =
      let p = parts t x xs ys h in
      ap length (sym p.whole) ∙ ap suc (each-length (t + 1) xs p.tail p.rest)

  -- what holds of the first and of the others holds of all
  below : (P : ℕ → B → Type 0) (t : ℕ) (y : B) (zs : List B) (d : B) → P t y → ((j : ℕ) (e : B) → j < length zs → P ((t + 1) + j) (get_or zs j e))
      → (k : ℕ) → k < length (y ∷ zs) → P (t + k) (get_or (y ∷ zs) k d)
  below P t y zs d first rest zero lt = let same : t ≡ t + 0 = omega arith in subst (λ n. P n y) same first
  below P t y zs d first rest (suc j) lt =
      let same : (t + 1) + j ≡ t + suc j = omega arith in
      subst (λ n. P n (get_or zs j d)) same (rest j d (omega (arith, lt)))

  -- what holds of each step holds of each item at its number
  pub each-good : (Q : A → Type 0) (P : ℕ → B → Type 0) → ((t : ℕ) (x : A) (y : B) → Q x → step t x ≡ Ok y → P t y)
      → (t : ℕ) (xs : List A) (ys : List B) → All Q xs → each_from step t xs ≡ Ok ys → (k : ℕ) (d : B) → k < length ys → P (t + k) (get_or ys k d)
  each-good Q P good t [] ys q h k d lt = let e : [] ≡ ys = cc in absurd (omega (arith, lt, ap length e))
  each-good Q P good t (x ∷ xs) ys q h k d lt =
      let p = parts t x xs ys h in
      subst (λ zs. k < length zs → P (t + k) (get_or zs k d)) p.whole
      (below P t p.head p.tail d (good t x p.head (All-head Q x xs q) p.first) (each-good Q P good (t + 1) xs p.tail (All-tail Q x xs q) p.rest) k) lt

-- steps that make each item of what it gives back
pub each-made : {A B E : Type 0} (step : ℕ → A → Result B E) (back : B → A) (t : ℕ) (ys : List B) (d : B)
    → ((k i : ℕ) → k < length ys → i ≡ t + k → step i (back (get_or ys k d)) ≡ Ok (get_or ys k d)) → each_from step t (map back ys) ≡ Ok ys
each-made step back t [] d h = refl
each-made step back t (y ∷ ys) d h =
    let rest = each-made step back (t + 1) ys d (λ k i lt is. h (suc k) i (omega (arith, lt)) (omega (arith, is))) in
    rw (h 0 t (omega arith) (omega arith), rest) refl
