use Rattle.std.proofs.Common.{◌≡◌, ℕ, subst, arith}
use Rattle.rail_model.specs.Table.{trains}
use Rattle.live_answers.specs.Rows.{AreRows, IsAtRow, Says}
use Rattle.live_answers.proofs.Saying.{no_rows, one_more}
use Rattle.live_answers.proofs.rows.push_at_rows.Goals as goal

pub loop-train-init : goal.loop-train-init
loop-train-init c = no_rows
    (IsAtRow c.args.page.now.names.now c.args.scene.now c.args.page.now.tag.now c.args.reports c.args.tolds.now) c.args.out.now.items

pub loop-train-preserved : goal.loop-train-preserved
loop-train-preserved c =
    one_more (IsAtRow c.args.page.now.names.now c.args.scene.now c.args.page.now.tag.now c.args.reports c.args.tolds.now)
    c.loop-train.train
    c.args.out.now.items c.loop-train.out.items _ c.loop-train.invariant c.in_ok-push_at_row.ensures

pub returns : goal.returns
returns c =
    let all : c.loop-train.train ≡ trains c.args.scene.now.table =
    omega (arith, c.loop-train-test.false, c.loop-train.auto.train-end, c.trains-train-end.ensures.count) in
    subst (λ (n : ℕ). Says
    (AreRows (IsAtRow c.args.page.now.names.now c.args.scene.now c.args.page.now.tag.now c.args.reports c.args.tolds.now) n)
    c.args.out.now.items c.loop-train.out.items) all c.loop-train.invariant
