use Rattle.std.proofs.Common.{◌∙◌, sym}
use Rattle.section_repair.specs.Core.{is_drawn_in}
use Rattle.section_repair.proofs.Steps.{filter-more, filter-skip}
use Rattle.section_repair.proofs.cores.widened.Goals as goal
use Rattle.section_repair.proofs.cores.widened.Goals.{then-is_drawn_in+in_ok-push, else-is_drawn_in}

pub loop-train-preserved : goal.loop-train-preserved
loop-train-preserved c =
    let drawn = is_drawn_in c.args.table.now c.args.state.now c.args.group.now in
    let train = c.loop-train.train in
    elim c.if-is_drawn_in.branch [
      | then-is_drawn_in+in_ok-push w ↦
          (let more = filter-more drawn train (sym c.is_drawn_in.ensures ∙ w.if-is_drawn_in.true) in
          let items = w.in_ok-push.ensures.items in
          cc)
      | else-is_drawn_in w ↦
          (let skip = filter-skip drawn train (sym c.is_drawn_in.ensures ∙ w.if-is_drawn_in.false) in
          cc)
    ]
