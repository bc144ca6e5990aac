-- The marks of a train graph.
use Rattle.std.specs.Prelude.{ℕ, Bool, nat_lt, is_none, List, [], ◌∷◌, ◌++◌, codes, decimal, flat_map, max, min, ◌^◌, Option, Some, None, if◌then◌else◌, unwrap_or}
use Rattle.std.specs.Bool.{beq}
use Rattle.rail_model.specs.Checks.{below}
use Rattle.run_timetable.specs.declared.rows.Row.{Row}
use Rattle.run_timetable.specs.declared.run.Step.{Step}
use Rattle.run_timetable.specs.Timetable.{arrival, end_of, rows_in, trains_of}
use Rattle.svg_text.specs.Tree.{Attribute, Shape}
use Rattle.svg_text.specs.Shapes.{line_of}
use Rattle.svg_text.specs.declared.shapes.Spot.{Spot}
use Rattle.train_graph.specs.declared.scale.Axes.{Axes}
use Rattle.train_graph.specs.Places.{x_at, y_at, target_y}
use Rattle.train_graph.specs.Subject.{Subject}
use Rattle.train_graph.specs.Titles.{level_title, move_title}

-- the class of all that belongs to a train, as `t3`
abbrev pub class_of : ℕ → Attribute
class_of train = record { name = codes "class"; value = codes "t" ++ decimal train }

-- a line with the class of its train
abbrev pub of_train : ℕ → Shape → Shape
of_train train s = record s { attributes = s.attributes ++ class_of train ∷ [] }

-- a line with a title
abbrev pub titled : List ℕ → Shape → Shape
titled title s = record s { title = title }

-- the mark of a step: a line from its point, at the tick at which it begins, to where it leads, at its end
abbrev pub mark_of : Subject → Step → Shape
mark_of S s =
    titled (move_title S.layout S.names s)
    (of_train s.train
    (line_of
    (record { x = x_at S.axes s.tick; y = y_at S.axes s.from })
    (record { x = x_at S.axes (arrival s); y = target_y S.axes s.from s.to })))

-- the ticks that a picture shows: up to the end of the last step, and not above 2 ^ 40
abbrev pub span_of : List Step → ℕ
span_of steps = min (max (end_of steps) 1) (2 ^ 40)

-- the spot of a tick at a point
abbrev pub spot_of : Axes → ℕ → ℕ → Spot
spot_of axes tick p = record { x = x_at axes tick; y = y_at axes p }

-- a level line of train i between two ticks at a point
abbrev pub level_line : Axes → ℕ → ℕ → ℕ → ℕ → Shape
level_line axes i from until p = of_train i (line_of (spot_of axes from p) (spot_of axes until p))

-- the level line of a row between two ticks at a point, with what a viewer shows of it, if the train stands there at all
abbrev pub level_between : Subject → Row → ℕ → ℕ → ℕ → List Shape
level_between S row from until p =
    if nat_lt from until then titled (level_title S.layout S.names S.waits row p) (level_line S.axes row.train from until p) ∷ [] else []

-- the level line at the point of a row: from the arrival, or tick 0, to when the train leaves, or the last tick
abbrev pub level_at : Subject → Row → Option ℕ → List Shape
level_at S row (Some p) = level_between S row (unwrap_or row.arrives 0) (unwrap_or row.leaves S.axes.span) p
level_at S row None = []

-- the level line of a row where the train stays, or of one that it leaves, as is asked for
abbrev pub level_of : Subject → Bool → Row → List Shape
level_of S stay row = if beq (is_none row.leaves) stay then level_at S row row.point else []

-- the level lines of train i in its timetable
abbrev pub levels_of : Subject → Bool → ℕ → List Shape
levels_of S stay i = flat_map (level_of S stay) (rows_in S.run i)

-- the level lines of all trains, one train after another
abbrev pub all_levels : Subject → Bool → List Shape
all_levels S stay = flat_map (levels_of S stay) (below (trains_of S.run.starts.items))
