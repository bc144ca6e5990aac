use Rattle.std.proofs.Common.{ℕ, ◌<◌, ◌++◌, length, ◌∙◌, arith}
use Rattle.std.specs.Prelude.{All, codes}
use Rattle.std.proofs.lemmas.List.Elements.{All-filter, All-same, All-weaker}
use Rattle.rail_model.specs.Names.{train_name}
use Rattle.live_lines.specs.Answers.{why_words}
use Rattle.live_lines.specs.Lines.{line_of}
use Rattle.live_answers.specs.Rows.{is_away, is_may, of_told}
use Rattle.live_answers.proofs.Saying.{on_ok}
use Rattle.live_answers.proofs.why.push_why_answer.Goals as goal

pub push_answer-requires : goal.push_answer-requires
push_answer-requires c =
    let waiting = c.args.waiting.now in
    let named = λ (i : ℕ). i < length c.args.page.now.names.now.trains in
    let all : All named waiting = All-weaker (λ i. i < length c.args.tolds.now) named
    (λ i lower. omega (arith, lower, c.requires.named)) waiting c.requires.below in
    let may = c.deref.ensures.value ∙ c.in_ok-may.ensures in
    let away = c.deref-2.ensures.value ∙ c.in_ok-away.ensures in (
      omega (arith, c.requires.train, c.requires.named),
      All-same named _ _ may (All-filter (of_told is_may c.args.tolds.now) named waiting all),
      All-same named _ _ away (All-filter (of_told is_away c.args.tolds.now) named waiting all),
    )

pub returns : goal.returns
returns c =
    let may = c.deref.ensures.value ∙ c.in_ok-may.ensures in
    let away = c.deref-2.ensures.value ∙ c.in_ok-away.ensures in
    on_ok c.push_answer.result _ _
    (λ said. said ∙ (λ j. c.args.out.now.items ++ line_of c.args.page.now.tag.now
    (codes "why " ++ train_name c.args.page.now.names.now c.args.train ++ why_words c.args.page.now.names.now
    (length c.args.waiting.now) (may j) (away j))))
    c.push_answer.ensures
