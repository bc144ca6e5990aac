-- A link is marked in both its rows, and nothing else changes.
use Rattle.std.proofs.Common.{◌≡◌, ◌∙◌, ℕ, ◌+◌, ◌*◌, ◌<◌, Bool, true, false, ◌==◌, ◌&&◌, ◌||◌, List, length, get_or, slice_get, take, set, Some, refl, sym, ap, arith, inl, inr}
use Rattle.std.specs.List.{list_any}
use Rattle.std.proofs.lemmas.Bool.{cases_eq}
use Rattle.std.proofs.lemmas.Bool.Decides.{nat_tests}
use Rattle.std.proofs.lemmas.Grind.{get_or-set_at}
use Rattle.std.proofs.lemmas.List.{get_or-set_other, length-set}
use Rattle.std.proofs.lemmas.List.Folds.{list_any_more}
use Rattle.std.proofs.lemmas.Option.{slice_get-get_or}
use Rattle.std.proofs.lemmas.Nat.{same_from_place, mul-add-lt}
use Rattle.rail_model.specs.Layout.{Layout, Link, IsLayout}
use Rattle.mission_table.specs.Marks.{mark}
use Rattle.mission_table.proofs.Linked.{joins}

-- the place of row c and column d is that of row a and column b
abbrev hits : ℕ → ℕ → ℕ → ℕ → Bool
hits c d a b = c == a && d == b

hit : (c d a b : ℕ) (x : Bool) → c ≡ a → d ≡ b → (x || hits c d a b) ≡ true
hit c d a b true row column = refl
hit c d a b false row column = grind (arith, nat_tests)

missed : (c d a b : ℕ) (x : Bool) → (c ≡ a → d ≡ b → ⊥) → (x || hits c d a b) ≡ x
missed c d a b true other = refl
missed c d a b false other = grind (arith, nat_tests)

-- a mark in one place
one_mark : (n : ℕ) (marks : List Bool) (c d a b : ℕ) → length marks ≡ n * n → c < n → d < n → b < n
    → mark n (set marks (c * n + d) true) a b ≡ (mark n marks a b || hits c d a b)
one_mark n marks c d a b size row column inside = elim (cases_eq (a * n + b) (c * n + d)) [
  | inl here ↦
      let same = same_from_place a b c d n inside column here in
      let fits : c * n + d < length marks = omega (arith, mul-add-lt c n d n row column) in
      get_or-set_at marks (c * n + d) (a * n + b) true false here fits ∙ sym (hit c d a b (mark n marks a b) (sym same.0) (sym same.1))
  | inr other ↦
      get_or-set_other marks (c * n + d) (a * n + b) true false other
      ∙ sym (missed c d a b (mark n marks a b) (λ row column. other (λ i. sym row i * n + sym column i)))
]

-- either way round
both_ways : (x : Bool) (a b : ℕ) (l : Link) → ((x || hits l.first l.second a b) || hits l.second l.first a b) ≡ (x || joins a b l)
both_ways true a b l = refl
both_ways false a b l = turned (hits l.first l.second a b) (l.second == a) (l.first == b)
  where
    turned : (x y z : Bool) → (x || (y && z)) ≡ (x || (z && y))
    turned true y z = refl
    turned false true true = refl
    turned false true false = refl
    turned false false true = refl
    turned false false false = refl

-- the two places of a link between points f and s are in the rows of n points
abbrev pub AreInside : ℕ → ℕ → ℕ → Type 0
AreInside n f s = (f * n + s < n * n) × (s * n + f < n * n)

-- the next link of a layout of n points, from point f to point s
module _ (L : Layout) (formed : IsLayout L) (links : List Link) (all : links ≡ L.links) (k : ℕ) (l : Link) (lt : k < length links) (is : l ≡ get_or links k l)
    (n f s : ℕ) (points : n ≡ length L.points) (first : f ≡ l.first) (second : s ≡ l.second) where
  ends_inside : (f < n) × (s < n)
  ends_inside =
      let ends = formed.joined k l (ap (λ ls. slice_get ls k) (sym all) ∙ slice_get-get_or links k l lt ∙ ap Some (sym is)) in
      (omega (arith, ends.0), omega (arith, ends.1))

  pub places_inside : AreInside n f s
  places_inside = (mul-add-lt f n s n ends_inside.0 ends_inside.1, mul-add-lt s n f n ends_inside.1 ends_inside.0)

  -- and its marks are those that it adds
  pub link_marked : (marks : List Bool) (a b : ℕ) → length marks ≡ n * n → b < n
      → mark n marks a b ≡ list_any (joins a b) (take k L.links)
      → mark n (set (set marks (f * n + s) true) (s * n + f) true) a b ≡ list_any (joins a b) (take (k + 1) L.links)
  link_marked marks a b size inside before =
      let there = set marks (f * n + s) true in
      one_mark n there s f a b (length-set marks (f * n + s) true ∙ size) ends_inside.1 ends_inside.0 inside
      ∙ ap (λ x. x || hits s f a b) (one_mark n marks f s a b size ends_inside.0 ends_inside.1 inside)
      ∙ (λ i. (before i || hits (first i) (second i) a b) || hits (second i) (first i) a b)
      ∙ both_ways (list_any (joins a b) (take k L.links)) a b l
      ∙ (λ i. list_any (joins a b) (take k (sym all i)) || joins a b (is i))
      ∙ sym (list_any_more (joins a b) links k l lt)
      ∙ ap (λ ls. list_any (joins a b) (take (k + 1) ls)) all
