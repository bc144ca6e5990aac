-- The timed journal: asks at ticks, and the lines with the ticks of their asks.
use Rattle.std.specs.Prelude.{◌≡◌, ℕ, ◌+◌, nat_le, List, [], ◌∷◌, map, find, replicate, true, false, Option, Some, None, slice_index, slice_set}
use Rattle.std.specs.List.{list_all}
use Rattle.rail_model.specs.declared.types.Ask.{Ask}
use Rattle.rail_model.specs.declared.types.Ask.TheVariants.{Yes}
use Rattle.rail_model.specs.declared.types.Reply.TheVariants.{Driver, NotWhole, Control}
use Rattle.rail_model.specs.declared.types.Entry.{Entry}
use Rattle.rail_model.specs.declared.types.Line.{Line}
use Rattle.rail_model.specs.Table.{trains, place}
use Rattle.rail_model.specs.State.{Arrived}
use Rattle.rail_model.specs.Yard.{Offer, Yard, in_force, IsNextDue, IsAnswer, after_entry}
use Rattle.rail_model.specs.Journal.{IsDone, is_move}
use Rattle.rail_model.specs.Lines.{line_of}
use Rattle.rail_model.specs.Checks.{below}
use Rattle.rail_model.specs.Times.{time}

-- The yard, the tick at which each train asks next, and the tick of the ask before, or 0.
pub record Clock : Type 0 where
  pub yard : Yard
  pub due : List ℕ
  pub now : ℕ

-- at tick 0 all trains are due
abbrev pub starting : Yard → ℕ → Clock
starting y n = record { yard = y; due = replicate n 0; now = 0 }

-- the tick at which train i asks next
abbrev pub due_of : Clock → ℕ → ℕ
due_of c i = slice_index c.due i

-- the first of n trains with the least due tick
abbrev pub next_asker : Clock → ℕ → Option ℕ
next_asker c n = find (λ i. list_all (λ j. nat_le (due_of c i) (due_of c j)) (below n)) (below n)

-- how long train i waits after such an answer: the travel time of the step that it makes, else one tick
abbrev pub wait : List (List (List ℕ)) → Clock → ℕ → Ask → ℕ
wait times c i ask = elim ask [ Yes ↦ time times c.yard.table i (place c.yard.positions i) | _ ↦ 1 ]

-- an entry, and the tick of its ask
pub record Stamped : Type 0 where
  pub tick : ℕ
  pub entry : Entry

-- the clock after an entry; one of the control leaves the ticks
abbrev pub after_stamped : List (List (List ℕ)) → Clock → Entry → Clock
after_stamped times c e = elim (e.reply) [
  | Driver ask ↦ record {
    yard = after_entry c.yard e;
    due = slice_set c.due e.who (due_of c e.who + wait times c e.who ask);
    now = due_of c e.who;
  }
  | NotWhole step ask ↦ c
  | Control tried ↦ record c { yard = after_entry c.yard e }
]

-- The next entry: of the control as soon as a table is due, at the tick of the ask before; else, while not all have
-- arrived, of the train that asks next, at its due tick.
abbrev pub IsNext : List Offer → Clock → Stamped → Type 0
IsNext tables c s = elim (s.entry.reply) [
  | Control tried ↦ IsNextDue tables c.yard × (s.tick ≡ c.now) × IsAnswer tables c.yard s.entry
  | Driver ask ↦
      (IsNextDue tables c.yard → ⊥) × (Arrived (in_force tables c.yard) c.yard.positions → ⊥)
      × (next_asker c (trains (in_force tables c.yard)) ≡ Some s.entry.who)
      × (s.tick ≡ due_of c s.entry.who) × IsAnswer tables c.yard s.entry
  | NotWhole step ask ↦ ⊥
]

-- All entries from a clock on, until all have arrived and no table is open.
abbrev pub IsTimed : List Offer → List (List (List ℕ)) → Clock → List Stamped → Type 0
IsTimed tables times c [] = IsDone tables c.yard
IsTimed tables times c (s ∷ later) = IsNext tables c s × IsTimed tables times (after_stamped times c s.entry) later

-- the lines of the entries that have one, each with its tick
abbrev pub timed_lines : List Offer → Yard → List Stamped → List (ℕ × Line)
timed_lines tables y [] = []
timed_lines tables y (s ∷ later) = elim (line_of tables y s.entry) [
  | Some l ↦ (s.tick, l) ∷ timed_lines tables (after_entry y s.entry) later
  | None ↦ timed_lines tables (after_entry y s.entry) later
]

abbrev pub ticks_of : List (ℕ × Line) → List ℕ
ticks_of ls = map (λ l. l.0) ls

abbrev pub lines_of : List (ℕ × Line) → List Line
lines_of ls = map (λ l. l.1) ls

-- the tick of the last move, or else t
abbrev pub last_tick_or : ℕ → List (ℕ × Line) → ℕ
last_tick_or t [] = t
last_tick_or t (l ∷ later) = elim (is_move l.1) [ true ↦ last_tick_or l.0 later | false ↦ last_tick_or t later ]
