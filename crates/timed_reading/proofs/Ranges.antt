-- The steps of printable lines have trains and points with names.
use Rattle.std.proofs.Common.{ℕ, List, [], ◌∷◌, All, map}
use Rattle.std.proofs.lemmas.List.Elements.{All-nil, All-cons, All-head, All-tail, All-append}
use Rattle.rail_model.specs.declared.types.Line.{Line}
use Rattle.rail_model.specs.declared.types.Line.TheVariants.{Move, Table, KeptDiffers, KeptOver}
use Rattle.rail_model.specs.Journal.{after_line}
use Rattle.rail_model.specs.Names.{Names}
use Rattle.rail_model.specs.Yard.{Yard}
use Rattle.move_journal.specs.Printable.{IsPrintable}
use Rattle.timed_reading.specs.Runs.{told_step, step_list, steps_of, IsStepIn}
use Rattle.timed_reading.specs.Told.{line_of}
use Rattle.timed_reading.specs.declared.ticks.Timed.{Timed}

-- of one line
told_in_range : (N : Names) (times : List (List (List ℕ))) (y : Yard) (tick : ℕ) (l : Line) → IsPrintable N l → All (IsStepIn N) (told_step times y tick l)
told_in_range N times y tick (Move i from to) named =
    All-cons (IsStepIn N) _ [] (record { train = named.0; from = named.1; to = named.2 }) (All-nil (IsStepIn N))
told_in_range N times y tick (Table t) named = All-nil (IsStepIn N)
told_in_range N times y tick (KeptDiffers t i k) named = All-nil (IsStepIn N)
told_in_range N times y tick (KeptOver t s n) named = All-nil (IsStepIn N)

-- of all lines
pub steps_in_range : (N : Names) (times : List (List (List ℕ))) (y : Yard) (lines : List Timed) → All (IsPrintable N) (map line_of lines) → All (IsStepIn N) (steps_of times y lines)
steps_in_range N times y [] named = All-nil (IsStepIn N)
steps_in_range N times y (t ∷ later) named =
    All-append (IsStepIn N) (step_list times y t) (steps_of times (after_line y t.line) later)
    (told_in_range N times y t.tick t.line (All-head (IsPrintable N) t.line (map line_of later) named))
    (steps_in_range N times (after_line y t.line) later (All-tail (IsPrintable N) t.line (map line_of later) named))
