use Rattle.document_facts.proofs.Kept.{keeps_all}
use Rattle.document_facts.proofs.laws.documents_that_lose_nothing_keep_each_section.Goals as goal

pub returns : goal.returns
returns c = keeps_all
