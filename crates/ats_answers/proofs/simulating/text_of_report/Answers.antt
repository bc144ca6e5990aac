use Rattle.std.proofs.Common.{◌^◌, ◌<◌, List, length, sym, ◌∙◌, subst}
use Rattle.std.specs.List.{All}
use Rattle.rail_model.specs.declared.types.Line.{Line}
use Rattle.rail_model.specs.Names.{Names}
use Rattle.move_journal.specs.Printable.{IsNamed}
use Rattle.document_json.specs.Doc.{names_of}
use Rattle.ats_answers.proofs.GoingOn.{few_lines, named_lines}
use Rattle.ats_answers.proofs.simulating.text_of_report.Goals as goal

pub push_timed-requires-clause-named : goal.push_timed-requires-clause-named
push_timed-requires-clause-named c =
    let lines = sym (c.deref-2.ensures.value ∙ c.into_parts-lines.ensures.lines) in
    subst (λ (N : Names). All (IsNamed N) c.deref-2.result.now) (sym c.names.ensures.names)
    (subst (λ (xs : List Line). All (IsNamed (names_of c.args.doc.now)) xs) lines
    (named_lines c.args.doc.now c.args.report.state.yard c.args.report.state.lines c.names.ensures.formed c.requires.keeps))

pub from_lines-requires : goal.from_lines-requires
from_lines-requires c =
    subst (λ (xs : List Line). length xs < 2 ^ 32) (sym c.into_parts-lines.ensures.lines)
    (few_lines c.args.doc.now c.args.report.state.yard c.args.report.state.lines c.names.ensures.formed c.requires.keeps)
