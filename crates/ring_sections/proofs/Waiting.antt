-- The trains of a circular wait never move again, and its section forbids only states that have it.
use Rattle.std.proofs.Common.{◌≡◌, ◌≢◌, ℕ, zero, suc, ◌+◌, ◌<◌, ◌≤◌, ◌%◌, List, [], ◌∷◌, map, length, Some, arith, ap, ◌∙◌, inl, inr, subst, sym}
use Rattle.std.specs.Prelude.{All, option_map, slice_get, slice_index_or}
use Rattle.std.proofs.Math.Nat.{mod_self, mod-eq_of_lt, mod-lt}
use Rattle.std.proofs.lemmas.Bool.Decides.{leb_tells}
use Rattle.std.proofs.lemmas.List.{length-map}
use Rattle.std.proofs.lemmas.Option.{get_or_from_slice_get, slice_get-get_or, slice_get-map, slice_get_within}
use Rattle.rail_model.specs.Table.{Mission, point, place}
use Rattle.rail_model.specs.Move.{Move, Run, advance}
use Rattle.rail_model.proofs.Moves.{place_moved, place_other}
use Rattle.forbidden_states.specs.Forbid.{InStays, unmarked, forbidding}
use Rattle.forbidden_states.specs.Completing.{Completable, IsApart, ForbidsOnlyIncompletable}
use Rattle.forbidden_states.proofs.Over.{over_in}
use Rattle.ring_sections.specs.Ring.{Pair, IsRing, pair_at}
use Rattle.ring_sections.specs.Marking.{stays, ring_table, HasRing}
use Rattle.ring_sections.specs.Waiting.{NeverMoves, ForbidsOnlyRings}
use Rattle.ring_sections.proofs.Excluded.{ring-stays}

ring-at : (p : List ℕ) (r : List Pair) → HasRing p r → (k : ℕ) → k < length r → place p (pair_at r k).0 ≡ (pair_at r k).1
ring-at p [] has k lt = absurd (omega arith)
ring-at p (w ∷ r) has zero lt = has.0
ring-at p (w ∷ r) has (suc k) lt = ring-at p r has.1 k (omega arith)

-- a train that isn't in it moves
ring-moved : (p : List ℕ) (i : ℕ) (r : List Pair) → ((k : ℕ) → k < length r → (pair_at r k).0 ≢ i) → HasRing p r → HasRing (advance p i) r
ring-moved p i [] others has = tt
ring-moved p i (w ∷ r) others has =
    (place_other p i w.0 (others 0 (omega arith)) ∙ has.0, ring-moved p i r (λ k lt. others (suc k) (omega arith)) has.1)

-- the pair after one, counted round, is another
next-differs : (n k : ℕ) → 2 ≤ n → k < n → (k + 1) % n ≢ k
next-differs n k two lt same = elim (leb_tells n (k + 1)) [
  | inl last ↦
      let turned : k + 1 ≡ n = omega (arith, last.1) in
      let first : (k + 1) % n ≡ 0 = subst (λ v. v % n ≡ 0) (sym turned) (mod_self n) in
      omega arith
  | inr short ↦ let next : (k + 1) % n ≡ k + 1 = mod-eq_of_lt (omega (arith, short.1)) in omega arith
]

trains-differ : (M : List Mission) (r : List Pair) → IsRing M r → (j k : ℕ) → j < length r → k < length r → j ≢ k → (pair_at r j).0 ≢ (pair_at r k).0
trains-differ M r ring j k j_in k_in other same = elim (leb_tells k j) [
  | inl below ↦ ring.one_each k j (omega (arith, below.1, other)) j_in (sym same)
  | inr above ↦ ring.one_each j k (omega (arith, above.1)) k_in same
]

-- a train of the wait can't move first
nobody-moves : (M : List Mission) (r : List Pair) (p q : List ℕ) (i : ℕ) → IsRing M r → HasRing p r → Move (unmarked M) p i q →
    (k : ℕ) → k < length r → (pair_at r k).0 ≢ i
nobody-moves M r p q i ring has move k lt own =
    let after : ℕ = (k + 1) % length r in
    let several : 2 ≤ length r = ring.several in
    let after_in : after < length r = mod-lt (k + 1) (omega arith) in
    let other : (pair_at r after).0 ≢ i = λ e. trains-differ M r ring after k after_in lt (next-differs (length r) k several lt) (e ∙ sym own) in
    let wanted = ring.waits k lt in
    let one_each : length p ≡ length M = move.before.one_each in
    let mine : place q i ≡ (pair_at r k).1 + 1 =
    ap (λ v. place v i) move.step ∙ place_moved p i (omega (arith, move.train)) ∙ ap (λ j. place p j + 1) (sym own) ∙ ap (λ v. v + 1) (ring-at p r has k lt) in
    let theirs : place q (pair_at r after).0 ≡ (pair_at r after).1 =
    ap (λ v. place v (pair_at r after).0) move.step ∙ place_other p i (pair_at r after).0 other ∙ ring-at p r has after after_in in
    let here : point (unmarked M) i (place q i) ≡ Some wanted.0 = ap (point (unmarked M) i) mine ∙ ap (λ j. point (unmarked M) j ((pair_at r k).1 + 1)) (sym own) ∙ wanted.1 in
    let there : point (unmarked M) (pair_at r after).0 (place q (pair_at r after).0) ≡ Some wanted.0 = ap (point (unmarked M) (pair_at r after).0) theirs ∙ wanted.2 in
    move.after.apart i (pair_at r after).0 wanted.0 move.train (ring.train after after_in) (λ e. other (sym e)) here there

pub never_moves : (M : List Mission) (r : List Pair) → IsRing M r → (p l q : List ℕ) → HasRing p r → Run (unmarked M) p l q → HasRing q r
never_moves M r ring p [] q has run = subst (λ v. HasRing v r) (sym run) has
never_moves M r ring p (i ∷ later) q has run =
    let move : Move (unmarked M) p i run.0 = run.1 in
    never_moves M r ring run.0 later q
    (subst (λ v. HasRing v r) (sym move.step) (ring-moved p i r (nobody-moves M r p run.0 i ring has move) has)) run.2

-- so not all trains arrive
never_arrived : (M : List Mission) (r : List Pair) (p : List ℕ) → IsRing M r → HasRing p r → Completable M p → ⊥
never_arrived M r p ring has done =
    let several : 2 ≤ length r = ring.several in
    let first : 0 < length r = omega arith in
    let still = ring-at done.1 r (never_moves M r ring p done.0 done.1 has done.2) 0 first in
    let end = done.3 (pair_at r 0).0 (ring.train 0 first) in
    omega (arith, still, end, ring.unfinished 0 first)

ring-inside : (p : List ℕ) (r : List Pair) → InStays p (stays r) → HasRing p r
ring-inside p [] inside = tt
ring-inside p (w ∷ r) inside = (omega (arith, inside.0.0, inside.0.1), ring-inside p r inside.1)

pub forbids_only_rings : (M : List Mission) (rs : List (List Pair)) → All (IsRing M) rs → ForbidsOnlyRings M rs
forbids_only_rings M rs all p s r apart at over =
    let s_in : s < length rs = slice_get_within rs s r at in
    let ring : IsRing M r = subst (IsRing M) (get_or_from_slice_get rs s r r at) (all s r s_in) in
    ring-inside p r (over_in M (map stays rs) s (stays r) p (slice_get-map stays rs s ∙ ap (option_map stays) at)
    (ring-stays (length M) r ring.train ring.one_each) (λ i lt. apart.in_range i lt) over)

pub loses_nothing : (M : List Mission) (rs : List (List Pair)) → All (IsRing M) rs → ForbidsOnlyIncompletable M (ring_table M rs)
loses_nothing M rs all p s apart over =
    let s_in : s < length rs = omega (arith, over.0, length-map (map stays rs) (forbidding M), length-map rs stays) in
    never_arrived M (slice_index_or rs s []) p (all s [] s_in)
    (forbids_only_rings M rs all p s (slice_index_or rs s []) apart (slice_get-get_or rs s [] s_in) over)
