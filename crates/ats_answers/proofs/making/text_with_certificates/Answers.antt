use Rattle.std.proofs.Common.{ap}
use Rattle.document_json.specs.Replaced.{certified}
use Rattle.ats_answers.proofs.AcceptedText.{made_text}
use Rattle.ats_answers.proofs.making.text_with_certificates.Goals as goal

pub returns-clause-made : goal.returns-clause-made
returns-clause-made c =
    let D = c.args.doc.now in
    let trees = c.in_ok-certs.certs.items in
    let made = c.in_ok-certs.ensures.made in
    let is = ap (certified D) c.deref.ensures.value in
    (trees, made, made_text D _ c.args.budget.nodes trees _ c.args.budget.in_range.1 made is c.in_ok-write_certified.ensures.text c.in_ok-write_certified.ensures.reads_back)
