use Rattle.std.proofs.Common.{◌^◌, ◌<◌, List, length, sym, ap, subst, ◌∙◌}
use Rattle.std.specs.List.{All}
use Rattle.rail_model.specs.declared.types.Line.{Line}
use Rattle.rail_model.specs.Names.{Names}
use Rattle.rail_model.specs.Journal.{Journal}
use Rattle.move_journal.specs.Printable.{IsNamed}
use Rattle.document_json.specs.Doc.{names_of}
use Rattle.ats_answers.proofs.GoingOn.{few_lines, named_lines}
use Rattle.ats_run.proofs.run.text_of_run.Goals as goal

pub from_lines-requires : goal.from_lines-requires
from_lines-requires c =
    subst (λ (xs : List Line). length xs < 2 ^ 32) (sym c.into_parts-lines.ensures.lines)
    (few_lines c.args.doc.now c.args.state.yard c.args.state.lines c.names-names.ensures.formed c.requires)

pub text-requires-clause-few : goal.text-requires-clause-few
text-requires-clause-few c =
    let lines = sym (ap (λ (J : Journal). J.lines) c.from_lines.ensures ∙ c.into_parts-lines.ensures.lines) in
    subst (λ (xs : List Line). length xs < 2 ^ 32) lines
    (few_lines c.args.doc.now c.args.state.yard c.args.state.lines c.names-names.ensures.formed c.requires)

pub text-requires-clause-named : goal.text-requires-clause-named
text-requires-clause-named c =
    let lines = sym (ap (λ (J : Journal). J.lines) c.from_lines.ensures ∙ c.into_parts-lines.ensures.lines) in
    subst (λ (N : Names). All (IsNamed N) c.from_lines.result.lines) (sym c.names-names.ensures.names)
    (subst (λ (xs : List Line). All (IsNamed (names_of c.args.doc.now)) xs) lines
    (named_lines c.args.doc.now c.args.state.yard c.args.state.lines c.names-names.ensures.formed c.requires))
