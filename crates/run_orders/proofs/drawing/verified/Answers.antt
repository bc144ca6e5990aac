use Rattle.std.proofs.Common.{◌≡◌, ◌∙◌}
use Rattle.document_json.specs.Doc.{offers_of}
use Rattle.run_sentences.proofs.Offers.{are_tables, legal_at_first}
use Rattle.run_orders.proofs.Fronts.{whole_of}
use Rattle.run_orders.proofs.drawing.verified.Goals as goal

pub verify-requires-clause-tables : goal.verify-requires-clause-tables
verify-requires-clause-tables c =
    let same : c.deref.result.now ≡ offers_of c.args.doc.now = c.deref.ensures.value ∙ c.in_ok-tables.ensures in
    are_tables c.args.doc.now c.deref.result.now c.start_of.ensures.formed same

pub verify-requires-clause-legal : goal.verify-requires-clause-legal
verify-requires-clause-legal c =
    let same : c.deref.result.now ≡ offers_of c.args.doc.now = c.deref.ensures.value ∙ c.in_ok-tables.ensures in
    legal_at_first c.args.doc.now c.deref.result.now c.start_of.result.now c.start_of.ensures.formed same c.start_of.ensures.start

pub returns : goal.returns
returns c =
    let same : c.deref.result.now ≡ offers_of c.args.doc.now = c.deref.ensures.value ∙ c.in_ok-tables.ensures in
    whole_of c.args.doc.now c.deref.result.now c.start_of.result.now c.args.run.now c.verify.result same
    c.start_of.ensures.start c.verify.ensures
