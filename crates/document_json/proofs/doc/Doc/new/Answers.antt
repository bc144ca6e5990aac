use Rattle.std.proofs.Common.{map, sym, ◌∙◌, ap, subst}
use Rattle.document_json.specs.Doc.{Doc, IsDoc}
use Rattle.document_json.specs.Keeps.{untimed}
use Rattle.document_json.proofs.Timed.{untimed-timed}
use Rattle.document_json.proofs.doc.Doc.new.Goals as goal

pub invariant_of-result : goal.invariant_of-result
invariant_of-result c = (
  sym (ap (λ (D : Doc). map untimed D.tables) c.in_ok-frame.ensures ∙ untimed-timed c.args.tables.items c.args.times c.requires.each_timed),
  subst IsDoc (sym c.in_ok-frame.ensures) c.requires.is,
)
