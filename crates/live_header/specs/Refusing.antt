-- What the refusal of a document or of a journal is as the refusal of a header.
use Rattle.accepted_documents.specs.declared.refused.Unaccepted.{Unaccepted}
use Rattle.accepted_documents.specs.declared.refused.Unaccepted.TheVariants as unaccepted
use Rattle.accepted_documents.specs.declared.refused.BadJournal.{BadJournal}
use Rattle.accepted_documents.specs.declared.refused.BadJournal.TheVariants as bad
use Rattle.live_header.specs.declared.refused.Refused.{Refused}
use Rattle.live_header.specs.declared.refused.Refused.TheVariants as refused

-- what the refusal of a document is as the refusal of a header
abbrev pub refused_document : Unaccepted → Refused
refused_document unaccepted.Memory = refused.Memory
refused_document (unaccepted.Document e) = refused.Document e
refused_document (unaccepted.Tree t e) = refused.Tree t e
refused_document (unaccepted.Certificate t e) = refused.Certificate t e

-- what the refusal of a journal is as the refusal of a header
abbrev pub refused_journal : BadJournal → Refused
refused_journal bad.Memory = refused.Memory
refused_journal (bad.Text e) = refused.Text e
refused_journal (bad.Line e) = refused.Line e
