use Rattle.std.proofs.Common.{◌∙◌, sym, ap, map}
use Rattle.document_json.specs.Doc.{Doc}
use Rattle.document_json.specs.Keeps.{untimed}
use Rattle.document_json.specs.Retimed.{retimed}
use Rattle.document_json.proofs.Retimed.{untimed-retimed}
use Rattle.document_json.proofs.doc.Doc.with_times.Goals as goal

pub invariant_of-result : goal.invariant_of-result
invariant_of-result c =
    let is = c.with_times.ensures.frame ∙ ap (λ (D : Doc). retimed D c.args.times) c.into_parts-frame.ensures.frame in (
      c.into_parts-frame.ensures.tables ∙ sym (untimed-retimed c.args.self c.args.times c.requires) ∙ sym (ap (λ (D : Doc). map untimed D.tables) is),
      c.with_times.ensures.formed,
    )
