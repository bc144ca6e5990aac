-- Why a train may have no move.
use Rattle.std.specs.Prelude.{◌≤◌, ℕ, List}
use Rattle.rail_model.specs.Table.{Table, last}
use Rattle.rail_model.specs.Certificate.{Range, range, MayBlock}
use Rattle.state_boxes.specs.declared.moves.Reason.{Reason}
use Rattle.state_boxes.specs.declared.moves.Reason.TheVariants.{Unknown, AtEnd, Blocked, Full}

-- The reason holds of train i in the box: it may be at its last place, or the block's train may stand at its next point.
-- Of a rise nothing is known; it is tried anew in each box.
abbrev pub Holds : Table → List Range → ℕ → Reason → Type 0
Holds T B i Unknown = Unit {0}
Holds T B i AtEnd = last T i ≤ (range B i).hi
Holds T B i (Blocked b) = MayBlock T B i b.spot.train
Holds T B i (Full k) = Unit {0}

-- Where the reason holds, it tells that the train may have no move.
abbrev pub TellsStanding : Reason → Type 0
TellsStanding Unknown = ⊥
TellsStanding AtEnd = Unit {0}
TellsStanding (Blocked b) = Unit {0}
TellsStanding (Full k) = ⊥
