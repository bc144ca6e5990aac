-- How a call ends: its status, the exit code of it, and what a refusal's status is.
use Rattle.std.specs.Prelude.{ℕ}
use Rattle.ats_answers.specs.declared.status.Status.{Status}
use Rattle.ats_answers.specs.declared.status.Status.TheVariants as status
use Rattle.ats_answers.specs.declared.failure.Failure.{Failure}
use Rattle.ats_answers.specs.declared.failure.Failure.TheVariants as failure
use Rattle.accepted_documents.specs.declared.refused.Unaccepted.{Unaccepted}
use Rattle.accepted_documents.specs.declared.refused.Unaccepted.TheVariants as unaccepted
use Rattle.accepted_documents.specs.declared.refused.BadJournal.{BadJournal}
use Rattle.accepted_documents.specs.declared.refused.BadJournal.TheVariants as journal

-- the exit code of a status
abbrev pub code : Status → ℕ
code status.Done = 0
code status.Words = 1
code status.Memory = 2
code status.Refused = 3
code status.BadCertificate = 4
code status.Spent = 5
code status.Stuck = 6
code status.ReadFault = 7
code status.WriteFault = 8
code status.BadJournal = 9

-- the status of a call that ends with a refusal
abbrev pub status_of : Failure → Status
status_of failure.Words = status.Words
status_of failure.Memory = status.Memory
status_of failure.ReadFault = status.ReadFault
status_of failure.WriteFault = status.WriteFault
status_of failure.TooLong = status.Refused
status_of (failure.Document e) = status.Refused
status_of (failure.Tree t e) = status.Refused
status_of (failure.Certificate t e) = status.BadCertificate
status_of (failure.Spent t n) = status.Spent
status_of (failure.Rounds t n p) = status.Spent
status_of (failure.Stuck t p) = status.Stuck
status_of (failure.Many t n) = status.Refused
status_of (failure.Connected t) = status.Refused
status_of failure.NoJournal = status.BadJournal
status_of (failure.Text e) = status.BadJournal
status_of (failure.Line e) = status.BadJournal

-- what the refusal of a document is in the program
abbrev pub failure_of_document : Unaccepted → Failure
failure_of_document unaccepted.Memory = failure.Memory
failure_of_document (unaccepted.Document e) = failure.Document e
failure_of_document (unaccepted.Tree t e) = failure.Tree t e
failure_of_document (unaccepted.Certificate t e) = failure.Certificate t e

-- what the refusal of a journal is in the program
abbrev pub failure_of_journal : BadJournal → Failure
failure_of_journal journal.Memory = failure.Memory
failure_of_journal (journal.Text e) = failure.Text e
failure_of_journal (journal.Line e) = failure.Line e
