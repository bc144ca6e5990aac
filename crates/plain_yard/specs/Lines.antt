-- The lines that questions add, and the room for them.
use Rattle.std.specs.Prelude.{◌≡◌, ℕ, ◌+◌, ◌≤◌, Bool, true, false, List, length, option_to_list}
use Rattle.rail_model.specs.declared.types.Ask.{Ask}
use Rattle.rail_model.specs.declared.types.Line.{Line}
use Rattle.rail_model.specs.declared.types.Reply.TheVariants.{Driver, Control}
use Rattle.rail_model.specs.declared.types.Tried.{Tried}
use Rattle.rail_model.specs.declared.types.Tried.TheVariants.{Early, NoMore}
use Rattle.rail_model.specs.Lines.{line_of}
use Rattle.rail_model.specs.Yard.{Offer, Yard, control}
use Rattle.table_exchange.specs.Tables.{AreTables, Stands}

-- the line of a train's question, where it moved
abbrev pub asked_lines : List Offer → Yard → ℕ → Ask → List Line
asked_lines tables y i ask = option_to_list (line_of tables y (record { who = i; reply = Driver ask }))

-- the line of the control's question, where a table has its answer
abbrev pub tried_lines : List Offer → Yard → Tried → List Line
tried_lines tables y tried = option_to_list (line_of tables y (record { who = control; reply = Control tried }))

-- whether a table has its answer
abbrev pub is_answer : Tried → Bool
is_answer (Early m) = false
is_answer NoMore = false
is_answer _ = true

-- enough lines for any run: 32 trains make at most 127 moves each, and at most 15 tables are answered
abbrev pub most_lines : ℕ
most_lines = 4079

-- A legal state with one line for each move and each table that was tried, and room for all that can come.
pub record IsReady (tables : List Offer) (y : Yard) (lines : List Line) (capacity : ℕ) : Type 0 where
  pub are : AreTables tables
  pub stands : Stands tables y
  pub counted : length lines ≡ y.moves + y.tried
  pub room : most_lines ≤ capacity
