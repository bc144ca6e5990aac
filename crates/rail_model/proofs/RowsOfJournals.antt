-- Rows of the journal of a yard with three tables.
use Rattle.std.proofs.Common.{◌≡◌, ℕ, zero, suc, ◌+◌, ◌<◌, List, [], ◌∷◌, Some, None, refl, arith, lit<}
use Rattle.std.specs.Prelude.{codes, ◌%◌}
use Rattle.std.proofs.lemmas.Bool.Decides.{not_from_Decides}
use Rattle.std.proofs.lemmas.Fmt.{decimal_digit}
use Rattle.rail_model.specs.declared.types.Line.{Line}
use Rattle.rail_model.specs.declared.types.Line.TheVariants.{Move as MoveLine, Table as TableLine, KeptDiffers, KeptOver}
use Rattle.rail_model.specs.Move.{Move, advance}
use Rattle.rail_model.specs.Yard.{in_force, opening}
use Rattle.rail_model.specs.Journal.{Journal, IsLine, IsRight, IsDone, IsWhole, IsNextMover, IsRound, after_lines, with_counts, text}
use Rattle.rail_model.specs.Lines.{journal_of}
use Rattle.rail_model.proofs.MoveTests.{Decides-move}
use Rattle.rail_model.proofs.StateTests.{Decides-arrived, due}
use Rattle.rail_model.proofs.Samples.{names, three_tables, offered, leaving}
use Rattle.rail_model.proofs.RowsOfYards.{opened, one_moved, one_kept_out, one_exchanged, ended, history, moves, too_early, differs, takes_over, over}

abbrev lines : List Line
lines = MoveLine 0 0 (Some 1) ∷ KeptDiffers 1 0 1 ∷ MoveLine 1 2 (Some 3) ∷ TableLine 2 ∷ MoveLine 1 3 (Some 5) ∷ []

lines_of_history : journal_of three_tables opened history ≡ lines
lines_of_history = refl

lines_lead_to_the_end : after_lines opened lines ≡ ended
lines_lead_to_the_end = refl

right : IsRight three_tables opened lines
right = (
  (moves opened 0 refl, refl, refl),
  (
    (refl, differs),
    ((moves one_kept_out 1 refl, refl, refl), ((refl, takes_over), ((moves one_exchanged 1 refl, refl, refl), tt))),
  ),
)

kept_over : IsLine offered one_moved (KeptOver 1 0 1)
kept_over = (refl, over)

-- T1 leaves the layout after B
exit_line : IsLine (record { table = leaving; after = 0 } ∷ []) (opening (0 ∷ 1 ∷ [])) (MoveLine 1 1 None)
exit_line = ((Decides-move leaving (0 ∷ 1 ∷ []) 1).0 refl, refl, refl)

done : IsDone three_tables ended
done = ((Decides-arrived (in_force three_tables ended) (1 ∷ 2 ∷ [])).0 refl, λ e. omega (arith, e))

abbrev journal : Journal
journal = record { lines = lines; moves = 3; tables = 1 }

counts_of_lines : with_counts lines ≡ journal
counts_of_lines = refl

whole : IsWhole three_tables opened journal
whole = record { right = right; done = done; moves = refl; exchanges = refl }

printed : text names journal ≡ codes "1 move T0 A B\n2 kept 1 differs T0 1\n3 move T1 C D\n4 table 2\n5 move T1 D F\nend moves=3 tables=1\n"
printed = rw (decimal_digit 1 (lit< tt), decimal_digit 2 (lit< tt), decimal_digit 3 (lit< tt), decimal_digit 4 (lit< tt), decimal_digit 5 (lit< tt)) refl

printed_over : text names (record { lines = KeptOver 2 3 5 ∷ []; moves = 0; tables = 0 }) ≡ codes "1 kept 2 over 3 5\nend moves=0 tables=0\n"
printed_over = rw (decimal_digit 0 (lit< tt), decimal_digit 1 (lit< tt), decimal_digit 2 (lit< tt), decimal_digit 3 (lit< tt), decimal_digit 5 (lit< tt)) refl

-- the round robin begins after the last train
first_mover : IsNextMover (in_force three_tables opened) (0 ∷ 0 ∷ []) 1 0
first_mover = record { steps = 0; in_round = lit< tt; reached = refl; skipped = λ k lt. absurd (omega (arith, lt)) }

second_mover : IsNextMover (in_force three_tables one_kept_out) (1 ∷ 0 ∷ []) 0 1
second_mover = record { steps = 0; in_round = lit< tt; reached = refl; skipped = λ k lt. absurd (omega (arith, lt)) }

-- T0 has arrived and is skipped, so T1 moves again
skipping : IsNextMover (in_force three_tables one_exchanged) (1 ∷ 1 ∷ []) 1 1
skipping = record { steps = 1; in_round = lit< tt; reached = refl; skipped = skipped }
  where
    skipped : (k : ℕ) → k < 1 → Move (in_force three_tables one_exchanged) (1 ∷ 1 ∷ []) ((1 + 1 + k) % 2) (advance (1 ∷ 1 ∷ []) ((1 + 1 + k) % 2)) → ⊥
    skipped zero lt m = not_from_Decides _ (Decides-move (in_force three_tables one_exchanged) (1 ∷ 1 ∷ []) 0) refl m
    skipped (suc k) lt m = omega (arith, lt)

round : IsRound three_tables opened 1 lines
round = (
  (moves opened 0 refl, refl, refl),
  too_early.2,
  first_mover,
  (
    (refl, differs),
    (
      (moves one_kept_out 1 refl, refl, refl),
      (λ d. not_from_Decides _ (due (in_force three_tables one_kept_out) (1 ∷ 0 ∷ []) 1 9) refl d.1),
      second_mover,
      ((refl, takes_over), ((moves one_exchanged 1 refl, refl, refl), (λ d. omega (arith, d.0)), skipping, done)),
    ),
  ),
)
