-- What is drawn.
use Rattle.std.specs.Prelude.{Bool, List}
use Rattle.rail_model.specs.Layout.{Layout}
use Rattle.rail_model.specs.Names.{Names}
use Rattle.run_timetable.specs.declared.run.Run.{Run}
use Rattle.train_graph.specs.declared.scale.Axes.{Axes}
use Rattle.train_graph.specs.declared.sheet.Sheet.{Sheet}
use Rattle.wait_causes.specs.declared.wait.Wait.{Wait}

-- A run in a layout, by the names of its points and trains, with what its trains wait for, with bars where points are taken or without,
-- and where its ticks and points lie.
pub record Subject : Type 0 where
  pub layout : Layout
  pub names : Names
  pub run : Run
  pub waits : List Wait
  pub blocks : Bool
  pub axes : Axes

abbrev pub subject_of : Sheet → Subject
subject_of sheet = record {
  layout = sheet.layout.now;
  names = sheet.names.now;
  run = sheet.run.now;
  waits = sheet.waits.now;
  blocks = sheet.blocks;
  axes = sheet.axes.now;
}
