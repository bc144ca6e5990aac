-- Runs that end well, however they go on.
use Rattle.std.specs.Prelude.{◌≡◌, List, ◌++◌}
use Rattle.rail_model.specs.declared.types.Line.{Line}
use Rattle.rail_model.specs.Move.{Completes}
use Rattle.rail_model.specs.Yard.{Offer, Yard, in_force}
use Rattle.rail_model.specs.Journal.{after_lines}

-- From the state after any first lines on, each legal way of going on ends with all trains arrived after exactly the remaining moves.
abbrev pub GoesOnWell : List Offer → Yard → List Line → Type 0
GoesOnWell tables y lines = (front later : List Line) → lines ≡ front ++ later
    → Completes (in_force tables (after_lines y front)) (after_lines y front).positions
