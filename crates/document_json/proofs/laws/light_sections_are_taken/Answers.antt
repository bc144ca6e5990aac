use Rattle.document_json.proofs.Remade.{remarked-is-taken}
use Rattle.document_json.proofs.laws.light_sections_are_taken.Goals as goal

pub returns : goal.returns
returns c D parts taken h = remarked-is-taken D taken parts h
