use Rattle.document_orders.proofs.Offering.{are_offered}
use Rattle.document_orders.proofs.laws.documents_are_offered.Goals as goal

pub returns : goal.returns
returns c = are_offered
