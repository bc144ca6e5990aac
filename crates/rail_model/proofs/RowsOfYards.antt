-- Rows of the yard: what is told at its states, and histories.
use Rattle.std.proofs.Common.{◌≡◌, ℕ, zero, suc, List, [], ◌∷◌, ℤ, pos, ◌≤ℤ◌, true, refl, arith, lit<, lit≤, inl, inr}
use Rattle.std.proofs.lemmas.Bool.Decides.{not_from_Decides}
use Rattle.std.proofs.lemmas.Int.{ints}
use Rattle.rail_model.specs.declared.types.Ask.TheVariants.{Yes, Arrived as AtEnd, Occupied, Full}
use Rattle.rail_model.specs.declared.types.Tried.TheVariants.{Exchanged, Differs, Over, Early, NoMore}
use Rattle.rail_model.specs.declared.types.Reply.TheVariants.{Driver, NotWhole, Control}
use Rattle.rail_model.specs.declared.types.Entry.{Entry}
use Rattle.rail_model.specs.Move.{Move, Answers, advance}
use Rattle.rail_model.specs.Yard.{Yard, opening, in_force, IsNextDue, Tries, StopsAfter, IsAnswer, IsHistory}
use Rattle.rail_model.proofs.MoveTests.{Decides-legal, is_move, Decides-move, run}
use Rattle.rail_model.proofs.StateTests.{Decides-arrived, due}
use Rattle.rail_model.proofs.Asked.{ask-agrees}
use Rattle.rail_model.proofs.Told.{told}
use Rattle.rail_model.proofs.Samples.{corridor, open_corridor, shut_corridor, offered, history as short_history, two_trains, three_tables}
use Rattle.rail_model.specs.Table.{count}

abbrev pub opened : Yard
opened = opening (0 ∷ 0 ∷ [])

-- after T0's move, after the answer to the second table, and after T1's move
abbrev pub one_moved : Yard
one_moved = record { positions = 1 ∷ 0 ∷ []; table = 0; tried = 0; moves = 1 }

abbrev pub one_kept_out : Yard
one_kept_out = record { positions = 1 ∷ 0 ∷ []; table = 0; tried = 1; moves = 1 }

abbrev pub both_moved : Yard
both_moved = record { positions = 1 ∷ 1 ∷ []; table = 0; tried = 1; moves = 2 }

-- after the exchange, and at the end
abbrev pub one_exchanged : Yard
one_exchanged = record { positions = 1 ∷ 1 ∷ []; table = 2; tried = 2; moves = 2 }

abbrev pub ended : Yard
ended = record { positions = 1 ∷ 2 ∷ []; table = 2; tried = 2; moves = 3 }

not_below : (z : ℤ) → z ≡ pos 0 → pos 0 ≤ℤ z
not_below z e = omega (arith, ints)

pub moves : (y : Yard) (i : ℕ) → is_move (in_force three_tables y) y.positions i ≡ true → Move (in_force three_tables y) y.positions i (advance y.positions i)
moves y i h = (Decides-move (in_force three_tables y) y.positions i).0 h

pub too_early : Tries three_tables opened (Early 0)
too_early = (lit< tt, refl, λ d. not_from_Decides _ (due (two_trains (0 ∷ 1 ∷ []) (2 ∷ 3 ∷ [])) (0 ∷ 0 ∷ []) 0 1) refl d.1)

due_by_moves : IsNextDue three_tables one_moved
due_by_moves = (lit< tt, inl (lit≤ tt))

due_by_arrival : IsNextDue three_tables both_moved
due_by_arrival = (lit< tt, inr ((Decides-arrived (in_force three_tables both_moved) (1 ∷ 1 ∷ [])).0 refl))

-- the second table has E where T0 has been to B
pub differs : Tries three_tables one_moved (Differs 0 1)
differs = (due_by_moves, told (two_trains (0 ∷ 1 ∷ []) (2 ∷ 3 ∷ [])) (two_trains (0 ∷ 4 ∷ []) (2 ∷ 3 ∷ [])) (1 ∷ 0 ∷ []) (λ s. not_below _ refl))

pub takes_over : Tries three_tables both_moved Exchanged
takes_over = (due_by_arrival, told (two_trains (0 ∷ 1 ∷ []) (2 ∷ 3 ∷ [])) (two_trains (0 ∷ 1 ∷ []) (2 ∷ 3 ∷ 5 ∷ [])) (1 ∷ 1 ∷ []) (λ s. not_below _ refl))

no_more : Tries three_tables one_exchanged NoMore
no_more = lit≤ tt

abbrev pub history : List Entry
history =
    record { who = 32; reply = Control (Early 0) } ∷ record { who = 0; reply = Driver Yes } ∷ record { who = 0; reply = Driver AtEnd }
    ∷ record { who = 32; reply = Control (Differs 0 1) } ∷ record { who = 1; reply = Driver Yes } ∷ record { who = 32; reply = Control Exchanged }
    ∷ record { who = 1; reply = Driver Yes } ∷ []

answered : IsHistory three_tables opened history
answered = (
  (refl, lit< tt, too_early),
  (
    (lit< tt, moves opened 0 refl),
    (
      (lit< tt, refl),
      (
        (refl, lit< tt, differs),
        ((lit< tt, moves one_kept_out 1 refl), ((refl, lit< tt, takes_over), ((lit< tt, moves one_exchanged 1 refl), tt))),
      ),
    ),
  ),
)

-- a table whose section has no room for T0
pub over : Tries offered one_moved (Over 0 1)
over = ((lit< tt, inl (lit≤ tt)), told corridor shut_corridor (1 ∷ 0 ∷ []) low)
  where
    low : (s : ℕ) → pos 0 ≤ℤ count shut_corridor s (1 ∷ 0 ∷ [])
    low zero = grind (arith, ints)
    low (suc s) = not_below _ refl

full : Answers corridor (1 ∷ 0 ∷ []) 1 (Full 0 1)
full = (ask-agrees corridor (1 ∷ 0 ∷ []) 1 (Full 0 1) ((Decides-legal corridor (1 ∷ 0 ∷ [])).0 refl) (lit< tt) low).1 refl
  where
    low : (s : ℕ) → pos 0 ≤ℤ count corridor s (1 ∷ 0 ∷ [])
    low zero = grind (arith, ints)
    low (suc s) = not_below _ refl

kept_over : IsHistory offered opened short_history
kept_over = ((lit< tt, (Decides-move corridor (0 ∷ 0 ∷ []) 0).0 refl), ((refl, lit< tt, over), ((lit< tt, full), tt)))

-- T0 makes one step of its block, and T1 is at N
stopped : StopsAfter open_corridor (0 ∷ 1 ∷ []) 0 1 (Occupied 1)
stopped = (lit< tt, lit< tt, lit< tt, run open_corridor (0 ∷ 1 ∷ []) (0 ∷ []) refl, (lit< tt, (lit< tt, (λ e. cc), (2, refl, refl))), (λ e. cc))

told_so : IsAnswer (record { table = open_corridor; after = 0 } ∷ []) (opening (0 ∷ 1 ∷ [])) (record { who = 0; reply = NotWhole 1 (Occupied 1) })
told_so = (lit< tt, stopped)
