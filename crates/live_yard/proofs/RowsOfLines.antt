-- Worked rows: T0 went from A over M and N to B, and a table was kept out between.
use Rattle.std.proofs.Common.{◌≡◌, List, ◌∷◌, [], Some, refl, lit<, lit≤}
use Rattle.rail_model.specs.declared.types.Line.{Line}
use Rattle.rail_model.specs.declared.types.Line.TheVariants.{Move, KeptOver}
use Rattle.live_yard.specs.GrantedLines.{BeganAt, WasGranted, WasTried, moves_of}

abbrev journal : List Line
journal = Move 0 0 (Some 1) ∷ KeptOver 1 0 2 ∷ Move 0 1 (Some 2) ∷ Move 0 2 (Some 3) ∷ []

made : moves_of 0 journal ≡ 3
made = refl

granted : WasGranted journal 3 0 2 3
granted = record { counted = lit< tt; within = lit≤ tt; line = (Move 0 1 (Some 2), refl, refl); later = refl }

began : BeganAt journal 3 0 0
began = refl

tried : WasTried journal 1 2
tried = (lit< tt, (KeptOver 1 0 2, refl, refl))
