use Rattle.cert_maker.proofs.Common.{◌<◌, drop, trains, MayBeFull}
use Rattle.state_boxes.specs.Extremes.{IsQuiet}
use Rattle.cert_maker.proofs.Listed.{IsSought}
use Rattle.cert_maker.proofs.slack.has_room_for_all.Given as goal

abbrev pub invariant-loop-train : goal.invariant-loop-train
invariant-loop-train l =
    IsSought (λ j. IsQuiet l.table j l.section) (λ j. (j < trains l.table) × MayBeFull l.table l.ranges j l.section) (trains l.table)
    (drop l.train-index l.members)
