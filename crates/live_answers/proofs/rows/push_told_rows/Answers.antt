use Rattle.std.proofs.Common.{◌≡◌, ℕ, subst, arith}
use Rattle.rail_model.specs.Table.{trains}
use Rattle.live_answers.specs.Seen.{told_at}
use Rattle.live_answers.specs.Rows.{AreRows, IsToldRow, Says}
use Rattle.live_answers.proofs.Saying.{no_rows, one_more}
use Rattle.live_answers.proofs.rows.push_told_rows.Goals as goal

pub loop-train-init : goal.loop-train-init
loop-train-init c = no_rows
    (λ i. IsToldRow c.args.page.now.names.now c.args.scene.now c.args.page.now.tag.now i (told_at c.args.tolds.now i))
    c.args.out.now.items

pub loop-train-preserved : goal.loop-train-preserved
loop-train-preserved c =
    one_more (λ i. IsToldRow c.args.page.now.names.now c.args.scene.now c.args.page.now.tag.now i (told_at c.args.tolds.now i))
    c.loop-train.train
    c.args.out.now.items c.loop-train.out.items _ c.loop-train.invariant c.in_ok-push_told_row.ensures

pub returns : goal.returns
returns c =
    let all : c.loop-train.train ≡ trains c.args.scene.now.table =
    omega (arith, c.loop-train-test.false, c.loop-train.auto.train-end, c.trains-train-end.ensures.count) in
    subst (λ (n : ℕ). Says
    (AreRows (λ i. IsToldRow c.args.page.now.names.now c.args.scene.now c.args.page.now.tag.now i (told_at c.args.tolds.now i)) n)
    c.args.out.now.items c.loop-train.out.items) all c.loop-train.invariant
