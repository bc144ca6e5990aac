use Rattle.std.proofs.Common.{arith}
use Rattle.std.proofs.lemmas.Bool.{eqb-true}
use Rattle.state_boxes.proofs.Own.{own_between}
use Rattle.state_boxes.proofs.ways.are_of.Goals as goal

pub returns-then-spots-train : goal.returns-then-spots-train
returns-then-spots-train c =
    λ end. own_between c.args.train c.args.spots.now (record { train = 0; place = 0 }) c.requires (omega (arith, c.if-count-eq0.false)) c.if-spots-train.true (eqb-true _ _ end)
