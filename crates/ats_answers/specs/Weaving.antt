-- A run that begins with turns of its trains and its control, each of the one that is drawn.
use Rattle.std.specs.Prelude.{◌≡◌, ℕ, zero, suc, ◌+◌, ◌-◌, ◌%◌, ◌==◌, List, ◌++◌, if◌then◌else◌, Some, None, Ok, Err}
use Rattle.rail_model.specs.declared.types.Line.{Line}
use Rattle.rail_model.specs.Table.{trains}
use Rattle.rail_model.specs.Yard.{opening, offer, control}
use Rattle.rail_model.specs.Journal.{IsRound}
use Rattle.rail_model.specs.Lines.{journal_of}
use Rattle.zone_machine.specs.World.{Setup, World, yard_after}
use Rattle.zone_machine.specs.Steps.{step_of}
use Rattle.zone_machine.specs.Program.{next}
use Rattle.zone_machine.specs.Weave.{first_world}
use Rattle.document_generator.specs.Draws.{next_draw, drawn_of}
use Rattle.document_json.specs.Doc.{Doc, offers_of}

-- the core of a document, with room for at most this many entries
abbrev pub core_of : Doc → ℕ → Setup
core_of D most = record { layout = D.layout; tables = offers_of D; opening = opening D.start; most = most }

-- whom a drawn number means: a train, or after the last of them the control
abbrev pub drawn_actor : ℕ → ℕ → ℕ
drawn_actor count x = if x % (count + 1) == count then control else x % (count + 1)

-- the world after an actor's next step, if it has one
abbrev pub after_turn : Setup → ℕ → World → World
after_turn S p w = elim (next S w p) [ None ↦ w | Some step ↦ elim (step_of S p w step) [ Ok made ↦ made.1 | Err e ↦ w ] ]

-- the world after a number of turns, each of the actor that is drawn, the first of them after x
abbrev pub drawn_world : Setup → ℕ → ℕ → ℕ → World → World
drawn_world S count zero x w = w
drawn_world S count (suc more) x w = drawn_world S count more (next_draw x) (after_turn S (drawn_actor count (next_draw x)) w)

-- the world after the drawn turns of a document's core
abbrev pub woven : Doc → ℕ → ℕ → World
woven D seed turns =
    let S = core_of D turns in
    drawn_world S (trains (offer (offers_of D) 0).table) turns (drawn_of seed) (first_world S)

-- The lines are the journal of the history that the drawn turns make, and then those of the round robin from its state on.
pub record IsWoven (D : Doc) (seed turns : ℕ) (lines : List Line) : Type 0 where
  pub later : List Line
  pub round : IsRound (offers_of D) (yard_after (core_of D turns) (woven D seed turns).history) (trains (offer (offers_of D) 0).table - 1) later
  pub all : lines ≡ journal_of (offers_of D) (opening D.start) (woven D seed turns).history ++ later
