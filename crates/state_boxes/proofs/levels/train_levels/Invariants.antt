use Rattle.std.proofs.Common.{◌-◌, length}
use Rattle.state_boxes.specs.Extremes.{IsGrowing, level_at}
use Rattle.state_boxes.proofs.levels.train_levels.Given as goal

abbrev pub invariant-widen : goal.invariant-widen
invariant-widen l = IsGrowing l.table l.train l.levels.items

abbrev pub decreases-widen : goal.decreases-widen
decreases-widen l = l.places - (level_at l.levels.items (length l.levels.items - 1)).width
