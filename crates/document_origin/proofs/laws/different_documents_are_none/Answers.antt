use Rattle.document_origin.proofs.Different.{different}
use Rattle.document_origin.proofs.laws.different_documents_are_none.Goals as goal

pub returns : goal.returns
returns c = different
