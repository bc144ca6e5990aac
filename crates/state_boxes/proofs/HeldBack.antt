-- A train for which a reason tells so doesn't surely move.
use Rattle.std.proofs.Common.{ℕ, ◌<◌, List, arith}
use Rattle.rail_model.specs.Table.{Table, last}
use Rattle.rail_model.specs.Certificate.{Range, range, IsBox, MayBeAtEnd, SurelyMoves}
use Rattle.state_boxes.specs.declared.moves.Reason.{Reason}
use Rattle.state_boxes.specs.declared.moves.Reason.TheVariants.{Unknown, AtEnd, Blocked, Full}
use Rattle.state_boxes.specs.Reasons.{Holds, TellsStanding}

pub held_back : (T : Table) (B : List Range) (i : ℕ) (r : Reason) → IsBox T B → Holds T B i r → TellsStanding r → SurelyMoves T B i → ⊥
held_back T B i Unknown boxed holds tells moves = tells
held_back T B i AtEnd boxed holds tells moves = moves.unfinished ((range B i).hi, (boxed.some_place i moves.train, omega arith), holds)
held_back T B i (Blocked b) boxed holds tells moves = moves.unblocked b.spot.train holds
held_back T B i (Full k) boxed holds tells moves = tells

-- before its last place a train may not be at it
pub unfinished : (T : Table) (B : List Range) (i : ℕ) → (range B i).hi < last T i → MayBeAtEnd T B i → ⊥
unfinished T B i before at_end = omega (arith, before, at_end.1, at_end.2)
