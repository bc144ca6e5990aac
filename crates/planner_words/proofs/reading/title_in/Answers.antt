use Rattle.std.proofs.Common.{◌∙◌, ap, codes}
use Rattle.std.specs.Prelude.{unwrap_or}
use Rattle.clap.specs.Words.{found_of}
use Rattle.clap.proofs.WalkLemmas.{first_value-rows}
use Rattle.planner_words.proofs.Parses.{now_or}
use Rattle.planner_words.proofs.reading.title_in.Goals as goal

pub returns : goal.returns
returns c =
    ap (λ s. s.now) c.unwrap_or.ensures ∙ now_or c.get_str.result _
    ∙ ap (λ found. unwrap_or found (codes "Report")) (c.get_str.ensures ∙ first_value-rows (found_of c.args.matches.now) (codes "title"))
