use Rattle.std.proofs.Common.{◌∙◌, codes, refl, Some}
use Rattle.clap.specs.Words.{found_of, rows_of}
use Rattle.clap.proofs.WalkLemmas.{first_value-rows, one_text-rows}
use Rattle.planner_words.proofs.Refusals.{none_compared, none_missed}
use Rattle.planner_words.proofs.reading.compare.Goals as goal

pub returns-in-Some-default-clause-asked : goal.returns-in-Some-default-clause-asked
returns-in-Some-default-clause-asked c =
    let found = one_text-rows (found_of c.args.matches.now) (codes "csv") in (
      refl,
      (
        (λ up. c.get_flag.ensures.value (found ∙ up), λ down. c.get_flag.ensures.other (found ∙ down)),
        c.in-Some-default.ensures ∙ first_value-rows (found_of c.args.matches.now) (codes "with"),
      ),
    )

pub returns-in-None-Some-clause-asked : goal.returns-in-None-Some-clause-asked
returns-in-None-Some-clause-asked c =
    let flag = one_text-rows (found_of c.args.matches.now) (codes "csv") in
    let found = first_value-rows (found_of c.args.matches.now) in (
      refl,
      (
        (λ up. c.get_flag-in-None-Some.ensures.value (flag ∙ up), λ down. c.get_flag-in-None-Some.ensures.other (flag ∙ down)),
        c.in-None-Some.ensures ∙ found (codes "with"),
        c.in-None-Some.ensures' ∙ found (codes "delay"),
      ),
    )

pub returns-in-None-None-clause-answered : goal.returns-in-None-None-clause-answered
returns-in-None-None-clause-answered c =
    let found = first_value-rows (found_of c.args.matches.now) in
    let given = rows_of (found_of c.args.matches.now) in
    none_missed (Some (codes "compare", given)) c.refused.result (none_compared given (c.in-None-None.ensures ∙ found (codes "with")) (c.in-None-None.ensures' ∙ found (codes "delay")))
