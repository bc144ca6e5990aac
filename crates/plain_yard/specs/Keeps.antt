-- Runs on one thread: a state of the yard, and the lines that led to it.
use Rattle.std.specs.Prelude.{◌≡◌, ℕ, List}
use Rattle.rail_model.specs.declared.types.Line.{Line}
use Rattle.rail_model.specs.Journal.{IsRight, after_lines}
use Rattle.rail_model.specs.State.{Legal}
use Rattle.rail_model.specs.Yard.{Offer, Yard, offer, opening}
use Rattle.table_exchange.specs.Tables.{AreTables}

-- The yard on one thread, as its callers see it, with how many lines it has room for.
pub record PlainRun : Type 0 where
  pub tables : List Offer
  pub yard : Yard
  pub lines : List Line
  pub room : ℕ

-- The state is one of a legal run of the tables: from a legal state of table 0 the lines are right, and they lead to it.
pub record Keeps (tables : List Offer) (y : Yard) (lines : List Line) : Type 0 where
  pub are : AreTables tables
  pub start : List ℕ
  pub legal : Legal (offer tables 0).table start
  pub right : IsRight tables (opening start) lines
  pub reached : y ≡ after_lines (opening start) lines
