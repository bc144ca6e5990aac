use Rattle.std.proofs.Common.{◌≡◌, ◌∙◌}
use Rattle.document_json.specs.Doc.{offers_of}
use Rattle.run_sentences.proofs.Offers.{are_tables, legal_at_first}
use Rattle.run_orders.proofs.drawing.played.Goals as goal

pub replay-requires-clause-tables : goal.replay-requires-clause-tables
replay-requires-clause-tables c =
    let same : c.deref.result.now ≡ offers_of c.args.doc.now = c.deref.ensures.value ∙ c.in_ok-tables.ensures in
    are_tables c.args.doc.now c.deref.result.now c.start_of.ensures.formed same

pub replay-requires-clause-legal : goal.replay-requires-clause-legal
replay-requires-clause-legal c =
    let same : c.deref.result.now ≡ offers_of c.args.doc.now = c.deref.ensures.value ∙ c.in_ok-tables.ensures in
    legal_at_first c.args.doc.now c.deref.result.now c.start_of.result.now c.start_of.ensures.formed same c.start_of.ensures.start
