-- Where a run is when a tick begins: the table in force, and the positions of all trains.
use Rattle.std.specs.Prelude.{ℕ, ◌+◌, ◌==◌, ◌&&◌, Bool, List, count_by, find, length, map, nat_lt, reverse}
use Rattle.std.specs.Option.{option_map_or}
use Rattle.rail_model.specs.Checks.{below}
use Rattle.rail_model.specs.Table.{place}
use Rattle.document_json.specs.Doc.{Doc}
use Rattle.run_timetable.specs.declared.run.Run.{Run}
use Rattle.run_timetable.specs.declared.run.Step.{Step}
use Rattle.run_timetable.specs.declared.run.Takeover.{Takeover}

-- whether a table took over before a tick
abbrev pub took_over : ℕ → Takeover → Bool
took_over tick u = nat_lt u.tick tick

-- the table in force when a tick begins: the last that took over before, or else table 0
abbrev pub table_before : List Takeover → ℕ → ℕ
table_before takeovers tick = option_map_or (λ u. u.table) (find (took_over tick) (reverse takeovers)) 0

-- whether a step is one of train i, and began before a tick
abbrev pub has_begun : ℕ → ℕ → Step → Bool
has_begun i tick s = (s.train == i) && nat_lt s.tick tick

-- how many steps of train i began before a tick
abbrev pub steps_before : List Step → ℕ → ℕ → ℕ
steps_before steps i tick = count_by (has_begun i tick) steps

-- the place of train i when a tick begins: each of its steps that began before led it one place on from the start
abbrev pub place_before : Doc → Run → ℕ → ℕ → ℕ
place_before D run tick i = place D.start i + steps_before run.steps.items i tick

-- the positions of all trains when a tick begins
abbrev pub positions_before : Doc → Run → ℕ → List ℕ
positions_before D run tick = map (place_before D run tick) (below (length D.trains))
