use Rattle.std.proofs.Common.{◌∙◌, codes, refl, Some}
use Rattle.clap.specs.Words.{found_of, rows_of}
use Rattle.clap.proofs.WalkLemmas.{first_value-rows, one_text-rows}
use Rattle.planner_words.proofs.Refusals.{none_explained, none_missed}
use Rattle.planner_words.proofs.reading.explain.Goals as goal

pub returns-in-Some-default-clause-asked : goal.returns-in-Some-default-clause-asked
returns-in-Some-default-clause-asked c =
    let found = one_text-rows (found_of c.args.matches.now) (codes "run") in (
      refl,
      (
        c.table_in.ensures,
        c.in-Some-default.ensures ∙ first_value-rows (found_of c.args.matches.now) (codes "at"),
        (λ up. c.get_flag.ensures.value (found ∙ up), λ down. c.get_flag.ensures.other (found ∙ down)),
        c.get_str-in-Some-default.ensures ∙ first_value-rows (found_of c.args.matches.now) (codes "plan"),
      ),
    )

pub returns-in-None-Some-clause-asked : goal.returns-in-None-Some-clause-asked
returns-in-None-Some-clause-asked c =
    let found = first_value-rows (found_of c.args.matches.now) in (
      refl,
      (
        c.in-None-Some.ensures ∙ found (codes "at"),
        c.in-None-Some.ensures' ∙ found (codes "line"),
        c.get_str-in-None-Some.ensures ∙ found (codes "plan"),
      ),
    )

pub returns-in-None-None-clause-answered : goal.returns-in-None-None-clause-answered
returns-in-None-None-clause-answered c =
    let found = first_value-rows (found_of c.args.matches.now) in
    let given = rows_of (found_of c.args.matches.now) in
    none_missed (Some (codes "explain", given)) c.refused.result (none_explained given (c.in-None-None.ensures ∙ found (codes "at")) (c.in-None-None.ensures' ∙ found (codes "line")))
