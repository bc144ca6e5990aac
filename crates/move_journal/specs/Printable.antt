-- Which lines and journals have a text.
use Rattle.std.specs.Prelude.{◌≡◌, ℕ, ◌^◌, ◌<◌, ◌≤◌, List, length, All, Option, Some, IfSome}
use Rattle.rail_model.specs.declared.types.Line.{Line}
use Rattle.rail_model.specs.declared.types.Line.TheVariants.{Move, Table, KeptDiffers, KeptOver}
use Rattle.rail_model.specs.Table.{trains, point}
use Rattle.rail_model.specs.Yard.{Offer, offer}
use Rattle.rail_model.specs.Names.{Names}
use Rattle.rail_model.specs.Journal.{Journal}

-- A point has a name; leaving the layout needs none.
abbrev pub IsNamedTarget : Names → Option ℕ → Type 0
IsNamedTarget N to = IfSome to (λ q. q < length N.points)

-- A line's trains and points have names.
abbrev pub IsNamed : Names → Line → Type 0
IsNamed N (Move i from to) = (i < length N.trains) × (from < length N.points) × IsNamedTarget N to
IsNamed N (Table t) = Unit {0}
IsNamed N (KeptDiffers t i k) = i < length N.trains
IsNamed N (KeptOver t s n) = Unit {0}

-- A line's trains and points have names, and its numbers are at most 4,294,967,295.
abbrev pub IsPrintable : Names → Line → Type 0
IsPrintable N (Move i from to) = (i < length N.trains) × (from < length N.points) × IsNamedTarget N to
IsPrintable N (Table t) = t < 2 ^ 32
IsPrintable N (KeptDiffers t i k) = (t < 2 ^ 32) × (i < length N.trains) × (k < 2 ^ 32)
IsPrintable N (KeptOver t s n) = (t < 2 ^ 32) × (s < 2 ^ 32) × (n < 2 ^ 32)

-- At most 4,294,967,295 lines, each of which can be printed.
pub record ArePrintable (N : Names) (lines : List Line) : Type 0 where
  pub few : length lines < 2 ^ 32
  pub each : All (IsPrintable N) lines

-- A journal that has a text, also in its end line.
pub record HasText (N : Names) (J : Journal) : Type 0 where
  pub lines : ArePrintable N J.lines
  pub moves : J.moves < 2 ^ 32
  pub tables : J.tables < 2 ^ 32

-- The names are enough for these tables: each of their trains has one, and each point of their missions.
pub record AreEnough (N : Names) (tables : List Offer) : Type 0 where
  pub each_train : (t : ℕ) → t < length tables → trains (offer tables t).table ≤ length N.trains
  pub each_point : (t i k q : ℕ) → t < length tables → point (offer tables t).table i k ≡ Some q → q < length N.points
