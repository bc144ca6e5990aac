-- The run that timed lines tell.
use Rattle.std.specs.Prelude.{◌≡◌, ℕ, ◌<◌, List, [], ◌∷◌, ◌++◌, All, IfSome, Option, flat_map, length, map}
use Rattle.std.specs.List.{range_with_len}
use Rattle.rail_model.specs.declared.types.Line.{Line}
use Rattle.rail_model.specs.declared.types.Line.TheVariants.{Move, Table, KeptDiffers, KeptOver}
use Rattle.rail_model.specs.Journal.{after_line}
use Rattle.rail_model.specs.Names.{Names}
use Rattle.rail_model.specs.Table.{place, point, trains}
use Rattle.rail_model.specs.Times.{time}
use Rattle.rail_model.specs.Yard.{Yard, opening}
use Rattle.move_journal.specs.Printable.{ArePrintable}
use Rattle.document_json.specs.Doc.{Doc, names_of, table_at, times_of}
use Rattle.run_timetable.specs.declared.run.Run.{Run}
use Rattle.run_timetable.specs.declared.run.Step.{Step}
use Rattle.run_timetable.specs.declared.run.Takeover.{Takeover}
use Rattle.timed_reading.specs.Told.{line_of, timed_text}
use Rattle.timed_reading.specs.declared.ticks.Timed.{Timed}

-- the step of a line in a state, with the time of the train's step from its place in the table in force
abbrev pub told_step : List (List (List ℕ)) → Yard → ℕ → Line → List Step
told_step times y tick (Move i from to) =
    record { tick = tick; train = i; from = from; to = to; takes = time times y.table i (place y.positions i) } ∷ []
told_step times y tick (Table t) = []
told_step times y tick (KeptDiffers t i k) = []
told_step times y tick (KeptOver t s n) = []

abbrev pub step_list : List (List (List ℕ)) → Yard → Timed → List Step
step_list times y t = told_step times y t.tick t.line

-- one step for each move, in order
abbrev pub steps_of : List (List (List ℕ)) → Yard → List Timed → List Step
steps_of times y [] = []
steps_of times y (t ∷ later) = step_list times y t ++ steps_of times (after_line y t.line) later

-- the table that takes over by a line
abbrev pub told_takeover : ℕ → Line → List Takeover
told_takeover tick (Move i from to) = []
told_takeover tick (Table t) = record { tick = tick; table = t } ∷ []
told_takeover tick (KeptDiffers t i k) = []
told_takeover tick (KeptOver t s n) = []

abbrev pub takeover_list : Timed → List Takeover
takeover_list t = told_takeover t.tick t.line

-- the point at which a train begins, by its position in the document and table 0
abbrev pub start_point : Doc → ℕ → Option ℕ
start_point D i = point (table_at D 0) i (place D.start i)

-- the points at which all trains begin
abbrev pub starts_in : Doc → List (Option ℕ)
starts_in D = map (start_point D) (range_with_len 0 (trains (table_at D 0)))

-- The train and the points of a step have names.
pub record IsStepIn (N : Names) (s : Step) : Type 0 where
  pub train : s.train < length N.trains
  pub from : s.from < length N.points
  pub to : IfSome s.to (λ q. q < length N.points)

-- The run begins where the document says, and has exactly one step for each move of the lines, which the document's names
-- print, and one takeover for each table among them, in order, with their ticks.
pub record TellsRun (D : Doc) (lines : List Timed) (run : Run) : Type 0 where
  pub printable : ArePrintable (names_of D) (map line_of lines)
  pub starts : run.starts.items ≡ starts_in D
  pub steps : run.steps.items ≡ steps_of (times_of D) (opening D.start) lines
  pub takeovers : run.takeovers.items ≡ flat_map takeover_list lines
  pub in_range : All (IsStepIn (names_of D)) run.steps.items

-- Some lines tell the run.
pub record IsToldRun (D : Doc) (run : Run) : Type 0 where
  pub lines : List Timed
  pub tells : TellsRun D lines run

-- Lines whose text this is tell the run.
pub record IsToldIn (D : Doc) (journal : List ℕ) (run : Run) : Type 0 where
  pub lines : List Timed
  pub tells : TellsRun D lines run
  pub text : journal ≡ timed_text (names_of D) lines
