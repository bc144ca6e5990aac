use Rattle.live_answers.specs.Since.{IsSinceRow}
use Rattle.live_answers.proofs.Saying.{no_rows, one_more}
use Rattle.live_answers.proofs.since.push_since_rows.Goals as goal

pub loop-index-init : goal.loop-index-init
loop-index-init c = no_rows
    (IsSinceRow c.args.page.now.names.now c.args.page.now.tag.now c.args.lines.now c.args.from) c.args.out.now.items

pub loop-index-preserved : goal.loop-index-preserved
loop-index-preserved c =
    one_more (IsSinceRow c.args.page.now.names.now c.args.page.now.tag.now c.args.lines.now c.args.from) c.loop-index.index
    c.args.out.now.items
    c.loop-index.out.items _ c.loop-index.invariant c.in_ok-push_since_row.ensures
