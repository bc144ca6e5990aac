use Rattle.std.proofs.Common.{◌<◌, ◌^◌, List, length, sym, subst}
use Rattle.rail_model.specs.declared.types.Line.{Line}
use Rattle.ats_answers.proofs.GoingOn.{few_lines}
use Rattle.ats_run.proofs.drill.counts_of_run.Goals as goal

pub from_lines-journal-requires : goal.from_lines-journal-requires
from_lines-journal-requires c =
    subst (λ (xs : List Line). length xs < 2 ^ 32) (sym c.into_parts-lines.ensures.lines)
    (few_lines c.args.checked.now.doc c.args.end.yard c.args.end.lines c.names.ensures.formed c.requires.keeps)
