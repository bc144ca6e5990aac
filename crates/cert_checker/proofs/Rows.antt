-- Worked rows: the passing loop's certificate, the boxes that its nodes are visited in, and its bad variants.
use Rattle.std.proofs.Common.{◌≡◌, ℕ, ◌<◌, List, [], ◌∷◌, ◌++◌, true, false, Some, None, refl, arith, lit<, lit≤}
use Rattle.std.specs.Prelude.{All, Ok, Err}
use Rattle.std.specs.List.{list_all}
use Rattle.std.proofs.lemmas.Bool.{and_parts}
use Rattle.std.proofs.lemmas.List.Elements.{All-nil, All-cons}
use Rattle.rail_model.specs.declared.types.Node.TheVariants.{Split, Move}
use Rattle.rail_model.specs.declared.types.Bad.TheVariants.{MovePoint, Clash as BadClash}
use Rattle.rail_model.specs.Table.{Table}
use Rattle.rail_model.specs.Certificate.{Range, full_box, IsGood, Tree, clash, arrived, move, split, preorder, visits, Accepts, MayBlock}
use Rattle.rail_model.specs.Checks.{is_good}
use Rattle.rail_model.proofs.Agree.{Decides-good}
use Rattle.rail_model.proofs.Visits.{Visit, IsGoodVisit, shuts}
use Rattle.cert_checker.specs.declared.faults.CheckFault.TheVariants.{Bad as BadNode}
use Rattle.cert_checker.specs.Cut.{first_fault}
use Rattle.cert_checker.specs.Faults.{HasFault}
use Rattle.cert_tree.specs.Open.{opened}
use Rattle.cert_checker.specs.Walked.{next_train, walked, waiting}

-- the passing loop: W L1 E against E L2 W
abbrev loop : Table
loop = record {
  missions = record { points = 0 ∷ 1 ∷ 2 ∷ []; exits = false } ∷ record { points = 2 ∷ 3 ∷ 0 ∷ []; exits = false } ∷ [];
  sections = [];
  connections = [];
}

-- its certificate, of which two leaves differ from row to row
abbrev loop_tree : Tree → Tree → Tree
loop_tree fourth fifth =
    split 0 0 (move 0)
    (split 1 0 (split 0 1 fourth fifth) (split 0 1 (move 0) (split 1 1 (move 1) arrived)))

-- where each visit passes the test, each is good
all_good : (T : Table) (vs : List Visit) → list_all (λ v. is_good T v.0 v.1) vs ≡ true → All (λ v. IsGood T v.0 v.1) vs
all_good T [] h = All-nil (IsGoodVisit T)
all_good T (v ∷ vs) h =
    All-cons (IsGoodVisit T) v vs ((Decides-good T v.0 v.1).0 (and_parts _ _ h).0) (all_good T vs (and_parts _ _ h).1)

accepted : (T : Table) (c : Tree) → list_all (λ v. is_good T v.0 v.1) (visits (full_box T) c) ≡ true → Accepts T c
accepted T c h = shuts T c (full_box T) (all_good T (visits (full_box T) c) h)

loop_accepted : Accepts loop (loop_tree (move 1) (clash 0 1))
loop_accepted = accepted loop (loop_tree (move 1) (clash 0 1)) refl

-- a part that a clash and a move shut alike: both trains are at E, and the second may leave it
loop_shut_otherwise : Accepts loop (loop_tree (move 1) (move 1))
loop_shut_otherwise = accepted loop (loop_tree (move 1) (move 1)) refl

-- the boxes that are visited are those of the tree
loop_walked : walked (full_box loop ∷ []) (preorder (loop_tree (move 1) (clash 0 1))) ≡ visits (full_box loop) (loop_tree (move 1) (clash 0 1))
loop_walked = refl

-- after a split its left half is visited, then its right half, then the box's range is given back
loop_waiting : waiting (full_box loop)
    (record { train = 0; span = record { lo = 0; hi = 0 }; visit = true }
    ∷ record { train = 0; span = record { lo = 1; hi = 2 }; visit = true } ∷ record { train = 0; span = record { lo = 0; hi = 2 }; visit = false } ∷ [])
    ≡ opened (full_box loop) (Split 0 0) []
loop_waiting = refl

first_of_steps : next_train (record { train = 1; span = record { lo = 0; hi = 1 }; visit = true } ∷ record { train = 0; span = record { lo = 0; hi = 2 }; visit = false } ∷ []) ≡ Some 1
first_of_steps = refl

no_step : next_train [] ≡ None
no_step = refl

first_of_two : first_fault (Ok tt ∷ Err (BadNode (MovePoint 4 0 1)) ∷ Err (BadNode (BadClash 5)) ∷ []) ≡ Err (BadNode (MovePoint 4 0 1))
first_of_two = refl

-- the first train at L1 wants E, where the second is
abbrev at_loop : List Range
at_loop = record { lo = 1; hi = 1 } ∷ record { lo = 0; hi = 0 } ∷ []

blocked : MayBlock loop at_loop 0 1
blocked = (lit< tt, (λ e. omega (arith, e)), (1, 0, 2, (lit≤ tt, lit≤ tt), (lit≤ tt, lit≤ tt), refl, refl))

blocked_by_none_before : (j : ℕ) → j < 1 → MayBlock loop at_loop 0 j → ⊥
blocked_by_none_before j lt h = h.1 (omega arith)

-- the four visits before it
abbrev before : List Visit
before =
    (full_box loop, Split 0 0)
    ∷ (record { lo = 0; hi = 0 } ∷ record { lo = 0; hi = 2 } ∷ [], Move 0)
    ∷ (record { lo = 1; hi = 2 } ∷ record { lo = 0; hi = 2 } ∷ [], Split 1 0)
    ∷ (record { lo = 1; hi = 2 } ∷ record { lo = 0; hi = 0 } ∷ [], Split 0 1) ∷ []

-- so the bad move leaf is refused
loop_bad : HasFault loop (loop_tree (move 0) (clash 0 1)) (BadNode (MovePoint 4 0 1))
loop_bad = record {
  box = at_loop;
  node = Move 0;
  front = before;
  rest = visits (record { lo = 2; hi = 2 } ∷ record { lo = 0; hi = 0 } ∷ []) (clash 0 1)
      ++ visits (record { lo = 1; hi = 2 } ∷ record { lo = 1; hi = 2 } ∷ []) (split 0 1 (move 0) (split 1 1 (move 1) arrived));
  spelled = refl;
  index = refl;
  earlier = all_good loop before refl;
  refused = (refl, lit< tt, (λ e. omega (arith, e.1, e.2)), (blocked, blocked_by_none_before));
}
