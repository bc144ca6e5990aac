use Rattle.std.proofs.Common.{◌∙◌, ap, subst, map, string_bytes, IfOk, IsSomeAnd}
use Rattle.std.specs.Prelude.{IfErr}
use Rattle.clap.specs.Words.{kind_of, takes}
use Rattle.planner_words.specs.Answered.{MissesNone}
use Rattle.planner_words.specs.Named.{AsksFor}
use Rattle.planner_words.proofs.Parses.{found_in}
use Rattle.planner_words.proofs.Refusals.{no_memory}
use Rattle.planner_words.proofs.reading.words.Goals as goal

pub returns-in-Ok-try_get_matches_from-clause-asked : goal.returns-in-Ok-try_get_matches_from-clause-asked
returns-in-Ok-try_get_matches_from-clause-asked c =
    let same = found_in c.in-Ok.command (map string_bytes c.args.words.now) c.in-Ok-try_get_matches_from.matches c.in-Ok.ensures.0 c.in-Ok-try_get_matches_from.ensures.matches in
    subst (λ found. IfOk c.order_of.result (λ order. IsSomeAnd found (AsksFor order))) same c.order_of.ensures.asked

pub returns-in-Ok-try_get_matches_from-clause-answered : goal.returns-in-Ok-try_get_matches_from-clause-answered
returns-in-Ok-try_get_matches_from-clause-answered c _ =
    let same = found_in c.in-Ok.command (map string_bytes c.args.words.now) c.in-Ok-try_get_matches_from.matches c.in-Ok.ensures.0 c.in-Ok-try_get_matches_from.ensures.matches in
    subst (λ found. IfErr c.order_of.result (MissesNone found)) same c.order_of.ensures.answered

pub returns-in-Err-clause-answered : goal.returns-in-Err-clause-answered
returns-in-Err-clause-answered c taken =
    let words = map string_bytes c.args.words.now in
    no_memory (kind_of c.in-Err.error) c.answer_to.result _ c.answer_to.ensures (c.in-Err.ensures.passes (ap (λ app. takes app words) c.in-Ok.ensures.0 ∙ taken))
