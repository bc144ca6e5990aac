-- The picture of a run.
use Rattle.std.specs.Prelude.{◌≡◌, ◌<◌, Bool, List, vec_len}
use Rattle.std.specs.List.{AllZip}
use Rattle.std.specs.List.Sorted.{IsStrictlyIncreasing}
use Rattle.rail_model.specs.Layout.{Layout}
use Rattle.rail_model.specs.Names.{Names}
use Rattle.run_timetable.specs.declared.run.Run.{Run}
use Rattle.svg_text.specs.Tree.{Picture}
use Rattle.train_graph.specs.declared.scale.Axes.{Axes}
use Rattle.train_graph.specs.Layers.{IsLayer, layers}
use Rattle.train_graph.specs.Marks.{span_of}
use Rattle.train_graph.specs.Rows.{HasRows, IsOnce}
use Rattle.wait_causes.specs.declared.wait.Wait.{Wait}

-- The picture has a size, and exactly one group for each layer, in order, all by the same axes. Each point that a train comes to has a row
-- there, and no point has two. Each row lies further down than the one before it.
pub record IsGraph (L : Layout) (N : Names) (run : Run) (waits : List Wait) (blocks : Bool) (picture : Picture) : Type 0 where
  pub axes : Axes
  pub span : axes.span ≡ span_of run.steps.items
  pub wide : 0 < axes.width
  pub each : vec_len axes.depths ≡ vec_len axes.rows
  pub apart : IsStrictlyIncreasing axes.depths.items
  pub rows : HasRows run axes.rows.items
  pub once : IsOnce axes.rows.items
  pub broad : 0 < picture.width
  pub high : 0 < picture.height
  pub groups : AllZip
      (IsLayer (record { layout = L; names = N; run = run; waits = waits; blocks = blocks; axes = axes })) layers picture.groups
