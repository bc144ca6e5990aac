use Rattle.std.proofs.Common.{◌≡◌, ◌∙◌, sym, ap, subst, codes, refl, Some, None}
use Rattle.std.specs.Prelude.{IsSomeAnd}
use Rattle.clap.specs.Words.{found_of, rows_of}
use Rattle.clap.proofs.WalkLemmas.{first_value-rows}
use Rattle.decimal_number.specs.Decimal.{number_of}
use Rattle.planner_words.proofs.Refusals.{none_missed, none_ordered, none_ordered_by}
use Rattle.planner_words.proofs.reading.order_by.Goals as goal

pub returns-in-Some-number_of-clause-asked : goal.returns-in-Some-number_of-clause-asked
returns-in-Some-number_of-clause-asked c =
    let found = first_value-rows (found_of c.args.matches.now) in
    let number : number_of c.in-Some-default.text.now ≡ Some c.in-Some-number_of.seed =
    sym (ap number_of c.as_bytes.ensures.value) ∙ sym c.in-Some-number_of.ensures in (
      refl,
      (
        subst (λ o. IsSomeAnd o (λ word. number_of word ≡ Some c.in-Some-number_of.seed)) (c.in-Some-default.ensures ∙ found (codes "of-run")) number,
        c.get_str-journal.ensures ∙ found (codes "journal"),
        c.in-Some.ensures.named,
      ),
    )

pub returns-in-None-clause-answered : goal.returns-in-None-clause-answered
returns-in-None-clause-answered c =
    let given = rows_of (found_of c.args.matches.now) in
    let none : number_of c.in-Some-default.text.now ≡ None = sym (ap number_of c.as_bytes.ensures.value) ∙ sym c.in-None.ensures in
    none_missed (Some (codes "order", given)) c.refused-in-None.result
    (none_ordered given c.in-Some-default.text.now (c.in-Some-default.ensures ∙ first_value-rows (found_of c.args.matches.now) (codes "of-run")) none)

pub returns-in-None-None-clause-asked : goal.returns-in-None-None-clause-asked
returns-in-None-None-clause-asked c =
    let found = first_value-rows (found_of c.args.matches.now) in
    (refl, (c.in-None-None.ensures ∙ found (codes "of-run"), c.in-None-None.ensures' ∙ found (codes "journal"), c.in-Some.ensures.named))

pub returns-in-None-Some-clause-answered : goal.returns-in-None-Some-clause-answered
returns-in-None-Some-clause-answered c =
    let found = first_value-rows (found_of c.args.matches.now) in
    let given = rows_of (found_of c.args.matches.now) in
    none_missed (Some (codes "order", given)) c.refused-in-None-Some.result
    (none_ordered_by given _ (c.in-None-Some.ensures ∙ found (codes "of-run")) (c.in-None-Some.ensures' ∙ found (codes "journal")))
