use Rattle.document_shapes.proofs.WrittenBack.{text-back}
use Rattle.document_shapes.proofs.laws.written_members_read_back.Goals as goal

pub returns : goal.returns
returns c m read h = text-back m read h
