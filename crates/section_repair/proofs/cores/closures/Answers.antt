use Rattle.std.proofs.Common.{◌∙◌, sym}
use Rattle.section_repair.specs.Core.{closure, is_unfinished}
use Rattle.section_repair.proofs.Steps.{map-more, map-skip}
use Rattle.section_repair.proofs.cores.closures.Goals as goal
use Rattle.section_repair.proofs.cores.closures.Goals.{then-is_unfinished+in_ok-closure+in_ok-push, else-is_unfinished}

pub loop-train-preserved : goal.loop-train-preserved
loop-train-preserved c =
    let T = c.args.table.now in
    let p = c.args.state.now in
    let train = c.loop-train.train in
    elim c.if-is_unfinished.branch [
      | then-is_unfinished+in_ok-closure+in_ok-push w ↦
          (let more = map-more (closure T p) (is_unfinished T p) train (sym c.is_unfinished.ensures ∙ w.if-is_unfinished.true) in
          let items = w.in_ok-push.ensures.items in
          let closed = w.in_ok-closure.ensures in
          cc)
      | else-is_unfinished w ↦
          (let skip = map-skip (closure T p) (is_unfinished T p) train (sym c.is_unfinished.ensures ∙ w.if-is_unfinished.false) in
          cc)
    ]
