-- Rows of certificates with a bad node, one for each cause.
use Rattle.std.proofs.Common.{◌≡◌, ℕ, List, [], ◌∷◌, ◌++◌, length, true, false, refl, ap, arith, lit<, lit≤, inr}
use Rattle.std.specs.List.{list_any, list_all}
use Rattle.std.proofs.lemmas.Bool.Decides.{not_from_Decides}
use Rattle.std.proofs.lemmas.Int.{ints}
use Rattle.rail_model.specs.declared.types.Node.TheVariants.{Split, Move}
use Rattle.rail_model.specs.declared.types.Bad.{Bad}
use Rattle.rail_model.specs.declared.types.Bad.TheVariants as bad
use Rattle.rail_model.specs.Table.{Table, trains, last}
use Rattle.rail_model.specs.Certificate.{Range, full_box, Tree, clash, overfull, arrived, move, split, root, visits, MayBlock, MayBeFull, Refuses, index_of, FirstBad}
use Rattle.rail_model.specs.Checks.{below, is_good, may_block, may_be_full}
use Rattle.rail_model.proofs.Agree.{Decides-at_end, Decides-clash, Decides-any_below}
use Rattle.rail_model.proofs.BoxTests.{block, full, held}
use Rattle.rail_model.proofs.TreeTests.{all_pass}
use Rattle.rail_model.proofs.Visits.{Visit}
use Rattle.rail_model.proofs.Samples.{corridor, beside, loop, waiting}

-- at A the first train has a move; from B on the tree is at the other node
abbrev tree_with : Tree → Tree
tree_with other = split 0 0 (move 0) other

abbrev from_B : List Range
from_B = record { lo = 1; hi = 2 } ∷ record { lo = 0; hi = 1 } ∷ []

abbrev before : List Visit
before = (full_box beside, Split 0 0) ∷ (record { lo = 0; hi = 0 } ∷ record { lo = 0; hi = 1 } ∷ [], Move 0) ∷ []

-- so a fault of that node is the first
first_bad : (other : Tree) (rest : List Visit) (fault : Bad)
    → visits from_B other ≡ (from_B, root other) ∷ rest → index_of fault ≡ 2 → Refuses beside from_B (root other) fault → FirstBad beside (tree_with other) fault
first_bad other rest fault spelled index refused = record {
  box = from_B;
  node = root other;
  front = before;
  rest = rest;
  spelled = ap (λ (vs : List Visit). before ++ vs) spelled;
  index = index;
  earlier = all_pass beside before refl;
  refused = refused;
}

-- A is before the range
no_split : FirstBad beside (tree_with (split 0 0 arrived (move 1))) (bad.Split 2)
no_split = first_bad (split 0 0 arrived (move 1)) _ (bad.Split 2) refl refl (λ h. omega (arith, h.1))

-- C is the range's last place
no_split_at_end : FirstBad beside (tree_with (split 0 2 arrived (move 1))) (bad.Split 2)
no_split_at_end = first_bad (split 0 2 arrived (move 1)) _ (bad.Split 2) refl refl (λ h. omega (arith, h.2))

no_clash : FirstBad beside (tree_with (clash 0 1)) (bad.Clash 2)
no_clash = first_bad (clash 0 1) [] (bad.Clash 2) refl refl (lit< tt, lit< tt, not_from_Decides _ (Decides-clash beside from_B 0 1) refl)

-- a train does not clash with itself
no_clash_alone : FirstBad beside (tree_with (clash 1 1)) (bad.Clash 2)
no_clash_alone = first_bad (clash 1 1) [] (bad.Clash 2) refl refl (lit< tt, lit< tt, λ h. h.0 refl)

not_overfull : FirstBad beside (tree_with (overfull 1)) (bad.Overfull 2 1 3)
not_overfull = first_bad (overfull 1) [] (bad.Overfull 2 1 3) refl refl (refl, lit< tt, refl, grind (arith, ints))

not_arrived : FirstBad beside (tree_with arrived) (bad.Arrived 2 0)
not_arrived =
    first_bad arrived [] (bad.Arrived 2 0) refl refl
    ((lit< tt, not_from_Decides _ (Decides-at_end beside from_B 0) refl), λ j lt. absurd (omega (arith, lt)))

may_be_at_end : FirstBad beside (tree_with (move 0)) (bad.MoveEnd 2 0)
may_be_at_end = first_bad (move 0) [] (bad.MoveEnd 2 0) refl refl (refl, lit< tt, (2, (lit≤ tt, lit≤ tt), lit≤ tt))

no_train : FirstBad beside (tree_with (move 2)) (bad.Name 2)
no_train = first_bad (move 2) [] (bad.Name 2) refl refl (lit≤ tt)

no_second_train : FirstBad beside (tree_with (clash 0 2)) (bad.Name 2)
no_second_train = first_bad (clash 0 2) [] (bad.Name 2) refl refl (inr (lit≤ tt))

no_section : FirstBad beside (tree_with (overfull 2)) (bad.Name 2)
no_section = first_bad (overfull 2) [] (bad.Name 2) refl refl (lit≤ tt)

none_blocks : (T : Table) (B : List Range) (i : ℕ) → list_any (may_block T B i) (below (trains T)) ≡ false → (j : ℕ) → MayBlock T B i j → ⊥
none_blocks T B i h j m =
    not_from_Decides _ (Decides-any_below (may_block T B i) (λ k. may_block T B i k ≡ true) (λ k. (λ e. e, λ e. e)) (trains T)) h
    (j, m.0, (block T B i j m.0).1 m)

none_is_full : (T : Table) (B : List Range) (i : ℕ) → list_any (may_be_full T B i) (below (length T.sections)) ≡ false → (s : ℕ) → MayBeFull T B i s → ⊥
none_is_full T B i h s m =
    not_from_Decides _ (Decides-any_below (may_be_full T B i) (λ k. may_be_full T B i k ≡ true) (λ k. (λ e. e, λ e. e)) (length T.sections)) h
    (s, m.0, (full T B i s m.0).1 m)

-- T1 at its start, and T0 at the places 0 to m: there train i is to move
abbrev move_at_start : ℕ → ℕ → Tree
move_at_start m i = split 1 0 (split 0 m (move i) arrived) arrived

abbrev at_start : ℕ → List Range
at_start m = record { lo = 0; hi = m } ∷ record { lo = 0; hi = 0 } ∷ []

-- the two splits above it
abbrev two_splits : Table → ℕ → List Visit
two_splits T m = (full_box T, Split 1 0) ∷ (record { lo = 0; hi = last T 0 } ∷ record { lo = 0; hi = 0 } ∷ [], Split 0 m) ∷ []

first_bad_move : (T : Table) (m i : ℕ) (rest : List Visit) (fault : Bad)
    → visits (full_box T) (move_at_start m i) ≡ two_splits T m ++ (at_start m, Move i) ∷ rest → list_all (λ v. is_good T v.0 v.1) (two_splits T m) ≡ true
    → index_of fault ≡ 2 → Refuses T (at_start m) (Move i) fault → FirstBad T (move_at_start m i) fault
first_bad_move T m i rest fault spelled pass index refused = record {
  box = at_start m;
  node = Move i;
  front = two_splits T m;
  rest = rest;
  spelled = spelled;
  index = index;
  earlier = all_pass T (two_splits T m) pass;
  refused = refused;
}

-- T0 at L1 wants E, where T1 is
may_be_blocked : FirstBad loop (move_at_start 1 0) (bad.MovePoint 2 0 1)
may_be_blocked =
    first_bad_move loop 1 0 _ (bad.MovePoint 2 0 1) refl refl refl
    (refl, lit< tt, (λ e. omega (arith, e.1, e.2)), ((block loop (at_start 1) 0 1 (lit< tt)).0 refl, λ j lt m. m.1 (omega arith)))

-- T1 wants the corridor, and T0 may be there
may_be_full_inside : FirstBad corridor (move_at_start 1 1) (bad.MoveRoom 2 1 0)
may_be_full_inside =
    first_bad_move corridor 1 1 _ (bad.MoveRoom 2 1 0) refl refl refl (
      refl,
      lit< tt,
      (λ e. omega (arith, e.1, e.2)),
      none_blocks corridor (at_start 1) 1 refl,
      ((full corridor (at_start 1) 1 0 (lit< tt)).0 refl, λ j lt. absurd (omega (arith, lt))),
    )

-- T1 may leave its start only when T0 is at its end
abbrev second_waits : Table
second_waits = record waiting { connections = record { train = 1; place = 0; other = 0; reached = 1 } ∷ [] }

may_wait : FirstBad second_waits (move_at_start 0 1) (bad.MoveWait 2 1 0)
may_wait =
    first_bad_move second_waits 0 1 _ (bad.MoveWait 2 1 0) refl refl refl (
      refl,
      lit< tt,
      (λ e. omega (arith, e.1, e.2)),
      none_blocks second_waits (at_start 0) 1 refl,
      none_is_full second_waits (at_start 0) 1 refl,
      ((held second_waits (at_start 0) 1 0 (record { train = 1; place = 0; other = 0; reached = 1 }) refl).0 refl, λ j lt. absurd (omega (arith, lt))),
    )
