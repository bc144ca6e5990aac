use Rattle.std.proofs.Common.{◌≡◌, ◌∙◌}
use Rattle.document_json.specs.Doc.{offers_of}
use Rattle.run_sentences.proofs.Offers.{answered, are_tables, legal_at_first}
use Rattle.run_sentences.proofs.known.known_of.Goals as goal

pub run_to-requires-clause-tables : goal.run_to-requires-clause-tables
run_to-requires-clause-tables c =
    let same : c.deref.result.now ≡ offers_of c.args.doc.now = c.deref.ensures.value ∙ c.in_ok-tables.ensures in
    are_tables c.args.doc.now c.deref.result.now c.start_of.ensures.formed same

pub run_to-requires-clause-legal : goal.run_to-requires-clause-legal
run_to-requires-clause-legal c =
    let same : c.deref.result.now ≡ offers_of c.args.doc.now = c.deref.ensures.value ∙ c.in_ok-tables.ensures in
    legal_at_first c.args.doc.now c.deref.result.now c.start_of.result.now c.start_of.ensures.formed same c.start_of.ensures.start

pub returns : goal.returns
returns c =
    answered c.args.doc.now c.deref.result.now c.start_of.result.now c.args.at.now c.args.table c.in_ok-told.told
    (c.deref.ensures.value ∙ c.in_ok-tables.ensures) c.start_of.ensures.start c.in_ok-told.ensures
