-- The trains and points of right lines have names.
use Rattle.std.proofs.Common.{◌≡◌, ℕ, ◌<◌, List, [], ◌∷◌, length, Option, Some, None, arith}
use Rattle.std.specs.List.{All}
use Rattle.std.proofs.lemmas.List.Elements.{All-nil, All-cons}
use Rattle.rail_model.specs.declared.types.Line.{Line}
use Rattle.rail_model.specs.declared.types.Line.TheVariants.{Move, Table as TableLine, KeptDiffers, KeptOver}
use Rattle.rail_model.specs.Table.{point}
use Rattle.rail_model.specs.Names.{Names}
use Rattle.rail_model.specs.Yard.{Offer, Yard, in_force}
use Rattle.rail_model.specs.Journal.{IsLine, IsRight, after_line}
use Rattle.move_journal.specs.Printable.{IsNamed, IsNamedTarget, AreEnough}

named_target : (N : Names) (tables : List Offer) (y : Yard) (i k : ℕ) (to : Option ℕ) → AreEnough N tables → y.table < length tables
    → point (in_force tables y) i k ≡ to → IsNamedTarget N to
named_target N tables y i k None enough within is = tt
named_target N tables y i k (Some q) enough within is = enough.each_point y.table i k q within is

named_line : (N : Names) (tables : List Offer) (y : Yard) (l : Line) → AreEnough N tables → y.table < length tables → IsLine tables y l → IsNamed N l
named_line N tables y (Move i from to) enough within line =
    (omega (arith, line.0.train, enough.each_train y.table within), enough.each_point y.table i _ from within line.1, named_target N tables y i _ to enough within line.2)
named_line N tables y (TableLine t) enough within line = tt
named_line N tables y (KeptDiffers t i k) enough within line = omega (arith, line.1.1.0.0.1.0, enough.each_train y.table within)
named_line N tables y (KeptOver t s n) enough within line = tt

-- a table in force is one of the tables
within_line : (tables : List Offer) (y : Yard) (l : Line) → y.table < length tables → IsLine tables y l → (after_line y l).table < length tables
within_line tables y (Move i from to) within line = within
within_line tables y (TableLine t) within line = line.1.0.0
within_line tables y (KeptDiffers t i k) within line = within
within_line tables y (KeptOver t s n) within line = within

-- Right lines can be written, where the names are enough for the tables.
pub named_right : (N : Names) (tables : List Offer) (y : Yard) (lines : List Line) → AreEnough N tables → y.table < length tables → IsRight tables y lines → All (IsNamed N) lines
named_right N tables y [] enough within right = All-nil (IsNamed N)
named_right N tables y (l ∷ later) enough within right =
    All-cons (IsNamed N) l later (named_line N tables y l enough within right.0)
    (named_right N tables (after_line y l) later enough (within_line tables y l within right.0) right.1)
