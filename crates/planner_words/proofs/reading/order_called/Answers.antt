use Rattle.std.proofs.Common.{◌∙◌, codes, rules}
use Rattle.clap.specs.Words.{found_of}
use Rattle.clap.proofs.WalkLemmas.{first_value-rows, one_text-rows}
use Rattle.planner_words.proofs.reading.order_called.Goals as goal

pub returns-in-lint-clause-asked : goal.returns-in-lint-clause-asked
returns-in-lint-clause-asked c =
    let found = first_value-rows (found_of c.args.matches.now) in
    (search rules, (c.get_str.ensures ∙ found (codes "before"), c.get_str-in-lint.ensures ∙ found (codes "plan")))

pub returns-in-timetable-clause-asked : goal.returns-in-timetable-clause-asked
returns-in-timetable-clause-asked c =
    let found = one_text-rows (found_of c.args.matches.now) (codes "csv") in (
      search rules,
      (
        (λ up. c.get_flag.ensures.value (found ∙ up), λ down. c.get_flag.ensures.other (found ∙ down)),
        c.get_str-in-timetable.ensures ∙ first_value-rows (found_of c.args.matches.now) (codes "journal"),
        c.get_str-in-timetable-2.ensures ∙ first_value-rows (found_of c.args.matches.now) (codes "delay"),
      ),
    )

pub returns-in-graph-clause-asked : goal.returns-in-graph-clause-asked
returns-in-graph-clause-asked c =
    let found = first_value-rows (found_of c.args.matches.now) in
    let flag = one_text-rows (found_of c.args.matches.now) (codes "blocks") in (
      search rules,
      (
        c.get_str-in-graph.ensures ∙ found (codes "train"),
        c.get_str-in-graph-2.ensures ∙ found (codes "journal"),
        (λ up. c.get_flag-in-graph.ensures.value (flag ∙ up), λ down. c.get_flag-in-graph.ensures.other (flag ∙ down)),
        c.get_str-in-graph-3.ensures ∙ found (codes "delay"),
      ),
    )

pub returns-in-report-clause-asked : goal.returns-in-report-clause-asked
returns-in-report-clause-asked c =
    let found = first_value-rows (found_of c.args.matches.now) in
    (search rules, (c.title_in.ensures, c.get_str-in-report.ensures ∙ found (codes "journal"), c.get_str-in-report-2.ensures ∙ found (codes "delay")))

pub returns-in-layout-clause-asked : goal.returns-in-layout-clause-asked
returns-in-layout-clause-asked c =
    let found = first_value-rows (found_of c.args.matches.now) in
    (search rules, (c.table_in.ensures, c.get_str-in-layout.ensures ∙ found (codes "at"), c.get_str-in-layout-2.ensures ∙ found (codes "plan")))
