use Rattle.std.proofs.Common.{◌<◌, length, refl, arith}
use Rattle.std.proofs.lemmas.List.Elements.{All-from_get_or}
use Rattle.rail_model.specs.Table.{trains}
use Rattle.live_yard.proofs.Standing.{few_wants}
use Rattle.live_answers.specs.Rows.{why_line}
use Rattle.live_answers.proofs.Saying.{behind, on_ok}
use Rattle.live_answers.proofs.why.push_waiting.Goals as goal

pub push_rows_of-requires-clause-below : goal.push_rows_of-requires-clause-below
push_rows_of-requires-clause-below c =
    All-from_get_or (λ i. i < trains c.args.scene.now.table) c.args.waiting.now 0 c.requires.awaited.one_each.below

pub push_why_answer-requires-clause-below : goal.push_why_answer-requires-clause-below
push_why_answer-requires-clause-below c =
    All-from_get_or (λ i. i < length c.args.tolds.now) c.args.waiting.now 0
    (λ i within. omega (arith, c.requires.awaited.one_each.below i within, c.requires.told.one_each))

pub push_why_answer-requires-clause-few : goal.push_why_answer-requires-clause-few
push_why_answer-requires-clause-few c =
    omega (
      arith,
      few_wants (trains c.args.scene.now.table) c.args.waiting.now c.requires.awaited.one_each,
      c.requires.told.one_each,
      c.requires.few,
    )

pub push_why_answer-requires-clause-named : goal.push_why_answer-requires-clause-named
push_why_answer-requires-clause-named c = omega (arith, c.requires.told.one_each, c.requires.named.trains)

pub returns : goal.returns
returns c =
    let rows = c.in_ok-push_rows_of.ensures in
    let line = why_line c.args.page.now.names.now c.args.page.now.tag.now c.args.tolds.now c.args.waiting.now c.args.train in
    on_ok c.push_why_answer.result _ _
    (λ said. (
      _,
      (c.args.tolds.now, c.args.waiting.now, rows.0, c.requires.told, c.requires.awaited, rows.1, refl),
      behind c.args.out.now.items c.push_rows_of.new.out.items line _ rows.0 rows.2 said,
    )) c.push_why_answer.ensures
