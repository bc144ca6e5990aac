-- How a call ends: its status, and the exit code of it, which is that of `ats`.
use Rattle.std.specs.Prelude.{ℕ}
use Rattle.line_service.specs.declared.server.ServeFault.{ServeFault}
use Rattle.line_service.specs.declared.server.ServeFault.TheVariants as serving
use Rattle.live_header.specs.declared.reading.Unread.{Unread}
use Rattle.live_header.specs.declared.reading.Unread.TheVariants as reading
use Rattle.live_header.specs.declared.refused.Refused.{Refused}
use Rattle.live_header.specs.declared.refused.Refused.TheVariants as refused
use Rattle.dispatch_run.specs.declared.status.Status.{Status}
use Rattle.dispatch_run.specs.declared.status.Status.TheVariants as status
use Rattle.dispatch_run.specs.declared.failure.Failure.{Failure}
use Rattle.dispatch_run.specs.declared.failure.Failure.TheVariants as failure

-- the exit code of a status
abbrev pub code : Status → ℕ
code status.Done = 0
code status.Words = 1
code status.Memory = 2
code status.Refused = 3
code status.BadCertificate = 4
code status.ReadFault = 7
code status.WriteFault = 8
code status.BadJournal = 9

-- the status of a call without a whole header
abbrev pub status_unread : Unread → Status
status_unread reading.Memory = status.Memory
status_unread reading.ReadFault = status.ReadFault
status_unread reading.TooLong = status.Refused
status_unread reading.NoJournal = status.BadJournal
status_unread reading.NoLive = status.Refused

-- the status of a call whose header opens nothing
abbrev pub status_refused : Refused → Status
status_refused refused.Memory = status.Memory
status_refused refused.Other = status.Refused
status_refused (refused.Document e) = status.Refused
status_refused (refused.Tree t e) = status.Refused
status_refused (refused.Certificate t e) = status.BadCertificate
status_refused (refused.Text e) = status.BadJournal
status_refused (refused.Line e) = status.BadJournal

-- the status of a call whose session broke off
abbrev pub status_broken : ServeFault → Status
status_broken serving.Memory = status.Memory
status_broken serving.Read = status.ReadFault
status_broken serving.Write = status.WriteFault

-- the status of a call that fails
abbrev pub status_of : Failure → Status
status_of (failure.Unread e) = status_unread e
status_of (failure.Header e) = status_refused e
status_of (failure.Broken e) = status_broken e
