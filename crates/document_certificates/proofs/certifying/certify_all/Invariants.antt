use Rattle.document_certificates.proofs.More.{AcceptBelow}
use Rattle.document_certificates.proofs.certifying.certify_all.Given as goal

abbrev pub invariant-loop-table : goal.invariant-loop-table
invariant-loop-table g l = AcceptBelow l.doc l.budget l.table l.certs.items
