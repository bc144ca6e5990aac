use Rattle.document_json.proofs.FormedDoc.{read-is-formed}
use Rattle.document_json.proofs.laws.read_documents_are_formed.Goals as goal

pub returns-clause-formed : goal.returns-clause-formed
returns-clause-formed c bytes D h = (read-is-formed bytes D h).is

pub returns-clause-taken : goal.returns-clause-taken
returns-clause-taken c bytes D h = (read-is-formed bytes D h).taken

pub returns-clause-first : goal.returns-clause-first
returns-clause-first c bytes D h = (read-is-formed bytes D h).first

pub returns-clause-last : goal.returns-clause-last
returns-clause-last c bytes D h = (read-is-formed bytes D h).last
