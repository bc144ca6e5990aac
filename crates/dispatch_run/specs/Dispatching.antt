-- What a whole call writes: the first text, the answers to the complete lines after the header, and the last line; or
-- why it ends otherwise. What lines are answered with, what is written last, and which sessions begin with which text
-- is a parameter.
use Rattle.std.specs.Prelude.{◌≡◌, ◌⊎◌, ℕ, List, [], ◌++◌, length, Option}
use Rattle.ats_io.specs.Bytes.{Adds}
use Rattle.line_service.specs.declared.server.ServeFault.{ServeFault}
use Rattle.line_service.specs.declared.server.ServeFault.TheVariants.{Memory}
use Rattle.line_service.specs.Answered.{AnswerRelation, IsEndless, IsSession}
use Rattle.live_header.specs.declared.opening.Opened.{Opened}
use Rattle.live_header.specs.declared.scanning.Stage.TheVariants.{Live}
use Rattle.live_header.specs.Opening.{IsOpened}
use Rattle.live_header.specs.Scan.{Header, after_bytes, started}
use Rattle.dispatch_run.specs.declared.failure.Failure.{Failure}
use Rattle.dispatch_run.specs.declared.failure.Failure.TheVariants.{Broken}
use Rattle.dispatch_run.specs.declared.status.Status.{Status}
use Rattle.dispatch_run.specs.declared.status.Status.TheVariants as status
use Rattle.dispatch_run.specs.Beginning.{IsUnbegun}
use Rattle.dispatch_run.specs.Conversing.{StopsTalking}
use Rattle.dispatch_run.specs.Ending.{status_of}
use Rattle.dispatch_run.specs.Report.{Tells, line_of, no_memory_line}

-- The sessions: what lines are answered with, what is written last, with which first text a session begins, and which
-- sessions what a header opens begins.
pub record Sessions : Type 1 where
  pub State : Type 0
  pub answers : AnswerRelation State
  pub last : State → List ℕ
  pub opens : State → List ℕ → Type 0
  pub begins : Opened → State → Type 0

-- The text is what is written in this session, whose lines are in these bytes: its first text, and then the answers and
-- the last line.
pub record IsTalk (Q : Sessions) (session : Q.State) (bytes written : List ℕ) : Type 0 where
  pub ready : List ℕ
  pub opens : Q.opens session ready
  pub told : List ℕ
  pub answered : IsSession Q.answers Q.last session bytes told
  pub whole : written ≡ ready ++ told

-- The text is what is written in a session of what a header opens.
pub record IsServed (Q : Sessions) (opened : Opened) (bytes written : List ℕ) : Type 0 where
  pub session : Q.State
  pub begun : Q.begins opened session
  pub talk : IsTalk Q session bytes written

-- The header that these bytes of an input make, after those of its document.
abbrev pub header_of : List ℕ → List ℕ → Header
header_of document input = after_bytes (started document) input

-- The text is what is written for this input.
pub record IsDispatched (Q : Sessions) (document input written : List ℕ) : Type 0 where
  pub whole : (header_of document input).stage ≡ Live
  pub opened : Opened
  pub opens : IsOpened (header_of document input) opened
  pub served : IsServed Q opened (header_of document input).line written

-- What the sink took where this session broke off: nothing, where there was no memory for the first text; else a first
-- part of what is written for these bytes.
abbrev pub BreaksOffTalking : (Q : Sessions) → Q.State → List ℕ → Type 0 → Type 0 → Option (List ℕ) → Option (List ℕ)
    → ServeFault → Type 0
BreaksOffTalking Q session bytes source_failed sink_failed old new fault =
    ((fault ≡ Memory) × Adds old new [])
    ⊎ ((ready : List ℕ) × Q.opens session ready
    × StopsTalking Q.answers Q.last session ready bytes source_failed sink_failed old new fault)

-- The same of a session of what a header opens; nothing, too, where there was no memory for the session.
abbrev pub BreaksOffServing : Sessions → Opened → List ℕ → Type 0 → Type 0 → Option (List ℕ) → Option (List ℕ)
    → ServeFault → Type 0
BreaksOffServing Q opened bytes source_failed sink_failed old new fault =
    ((fault ≡ Memory) × Adds old new [])
    ⊎ ((session : Q.State) × Q.begins opened session
    × BreaksOffTalking Q session bytes source_failed sink_failed old new fault)

-- The cause of a failure, and what was written: nothing where there was no session.
abbrev pub IsCause : Sessions → List ℕ → List ℕ → Type 0 → Type 0 → Type 0 → Option (List ℕ) → Option (List ℕ)
    → Failure → Type 0
IsCause Q document heard at_end source_failed sink_failed old new (Broken fault) =
    ((header_of document heard).stage ≡ Live)
    × ((opened : Opened) × IsOpened (header_of document heard) opened
    × BreaksOffServing Q opened (header_of document heard).line
    (source_failed ⊎ IsEndless heard) sink_failed old new fault)
IsCause Q document heard at_end source_failed sink_failed old new e =
    IsUnbegun (header_of document heard) (length heard) at_end source_failed e × Adds old new []

-- A call that fails ends with the failure's status and line; or, where there is no memory for the line, with those of
-- that.
abbrev pub TellsCause : Failure → Status → Type 0 → Option (List ℕ) → Option (List ℕ) → Type 0
TellsCause failure result failed old new =
    ((result ≡ status_of failure) × Tells (line_of failure) failed old new)
    ⊎ ((result ≡ status.Memory) × Tells no_memory_line failed old new)
