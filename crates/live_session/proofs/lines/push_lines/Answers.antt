use Rattle.std.proofs.Common.{◌≡◌, ℕ, subst, arith}
use Rattle.live_answers.specs.Rows.{AreRows, Says}
use Rattle.live_answers.proofs.Saying.{no_rows, one_more}
use Rattle.live_session.specs.Answering.{IsRow}
use Rattle.live_session.proofs.lines.push_lines.Goals as goal

pub loop-index-init : goal.loop-index-init
loop-index-init c = no_rows
    (IsRow c.args.fired c.args.journal.now.names.now c.args.journal.now.state.now c.args.journal.now.tags.now
    c.args.journal.now.lines.now c.args.from) c.args.out.now.items

pub loop-index-preserved : goal.loop-index-preserved
loop-index-preserved c =
    one_more (IsRow c.args.fired c.args.journal.now.names.now c.args.journal.now.state.now c.args.journal.now.tags.now
    c.args.journal.now.lines.now c.args.from)
    c.loop-index.index c.args.out.now.items c.loop-index.out.items _ c.loop-index.invariant c.in_ok-push_row.ensures

pub returns : goal.returns
returns c =
    let all : c.loop-index.index ≡ c.args.count = omega (arith, c.loop-index-test.false, c.loop-index.auto.index-end) in
    subst (λ (n : ℕ). Says
    (AreRows (IsRow c.args.fired c.args.journal.now.names.now c.args.journal.now.state.now c.args.journal.now.tags.now
    c.args.journal.now.lines.now c.args.from) n)
    c.args.out.now.items c.loop-index.out.items) all c.loop-index.invariant
