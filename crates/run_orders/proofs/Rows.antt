-- Worked rows: the lines with which a run begins.
use Rattle.std.proofs.Common.{◌≡◌, [], ◌∷◌, Some, refl}
use Rattle.rail_model.specs.declared.types.Line.TheVariants.{Move as MoveLine, Table as TableLine}
use Rattle.rail_model.specs.Journal.{with_counts}
use Rattle.move_journal.specs.declared.lines.Part.TheVariants.{Whole, Open}
use Rattle.run_orders.specs.RunOrdered.{lines_in}

whole-lines : lines_in (Whole (with_counts (MoveLine 0 0 (Some 1) ∷ TableLine 1 ∷ []))) ≡ MoveLine 0 0 (Some 1) ∷ TableLine 1 ∷ []
whole-lines = refl

begun-lines : lines_in (Open (with_counts (MoveLine 0 0 (Some 1) ∷ []))) ≡ MoveLine 0 0 (Some 1) ∷ []
begun-lines = refl
