use Rattle.std.proofs.Common.{◌≡◌, ℕ, ◌<◌, length, subst, arith}
use Rattle.std.specs.Prelude.{slice_index}
use Rattle.std.proofs.lemmas.List.Elements.{All-get_or}
use Rattle.rail_model.specs.Table.{trains}
use Rattle.live_answers.specs.Seen.{told_at}
use Rattle.live_answers.specs.Rows.{AreRows, IsToldRow, Says}
use Rattle.live_answers.proofs.Saying.{no_rows, one_more}
use Rattle.live_answers.proofs.why.push_rows_of.Goals as goal

pub loop-index-init : goal.loop-index-init
loop-index-init c =
    no_rows (λ k. IsToldRow c.args.page.now.names.now c.args.scene.now c.args.page.now.tag.now (slice_index c.args.waiting.now k)
    (told_at c.args.tolds.now (slice_index c.args.waiting.now k))) c.args.out.now.items

pub push_told_row-requires-clause-train : goal.push_told_row-requires-clause-train
push_told_row-requires-clause-train c =
    All-get_or (λ i. i < trains c.args.scene.now.table) c.args.waiting.now c.loop-index.index 0
    (omega (arith, c.loop-index-test.true)) c.requires.below

pub loop-index-preserved : goal.loop-index-preserved
loop-index-preserved c =
    one_more (λ k. IsToldRow c.args.page.now.names.now c.args.scene.now c.args.page.now.tag.now (slice_index c.args.waiting.now k)
    (told_at c.args.tolds.now (slice_index c.args.waiting.now k))) c.loop-index.index
    c.args.out.now.items c.loop-index.out.items _ c.loop-index.invariant c.in_ok-push_told_row.ensures

pub returns : goal.returns
returns c =
    let all : c.loop-index.index ≡ length c.args.waiting.now = omega
    (arith, c.loop-index-test.false, c.loop-index.auto.index-end) in
    subst (λ (n : ℕ). Says
    (AreRows (λ k. IsToldRow c.args.page.now.names.now c.args.scene.now c.args.page.now.tag.now (slice_index c.args.waiting.now k)
    (told_at c.args.tolds.now (slice_index c.args.waiting.now k))) n) c.args.out.now.items c.loop-index.out.items)
    all c.loop-index.invariant
