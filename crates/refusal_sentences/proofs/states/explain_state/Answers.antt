use Rattle.std.proofs.Common.{◌≡◌}
use Rattle.std.specs.Prelude.{Ok}
use Rattle.document_json.specs.Reading.{doc_of}
use Rattle.refusal_sentences.proofs.Told.{told_if_read}
use Rattle.refusal_sentences.proofs.states.explain_state.Goals as goal

pub returns-in-Ok : goal.returns-in-Ok
returns-in-Ok c =
    let is_read : doc_of c.args.bytes.now ≡ Ok c.in-Ok.doc = rw c.in-Ok.is at c.document_kept-read.ensures.document in
    told_if_read c.args.bytes.now c.args.names.now c.args.table c.args.places.now c.in-Ok.doc is_read c.explain_places.result c.explain_places.ensures
