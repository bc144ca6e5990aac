-- What a session has written where it broke off.
use Rattle.std.specs.Prelude.{ℕ, List, [], Option}
use Rattle.ats_io.specs.Bytes.{Adds, AddsPrefix}
use Rattle.line_service.specs.declared.server.Course.TheVariants.{GoesOn}
use Rattle.line_service.specs.declared.server.ServeFault.{ServeFault}
use Rattle.line_service.specs.declared.server.ServeFault.TheVariants.{Memory, Read, Write}
use Rattle.line_service.specs.Lines.{heard_of}
use Rattle.line_service.specs.Answered.{AnswerRelation, IsSession, Says, SaysSome}

-- The cause, and what the sink took, where a session broke off after these bytes. Without memory it is the answers to
-- the first of their lines. Where the source failed, it is the answers to all their lines. Where the sink failed, it
-- is a first part of what the session of these bytes writes.
abbrev pub Stops : {S : Type 0} → AnswerRelation S → (S → List ℕ) → S → List ℕ
    → Type 0 → Type 0 → Option (List ℕ) → Option (List ℕ) → ServeFault → Type 0
Stops Answers last from bytes source_failed sink_failed old new Memory = SaysSome Answers from
    (heard_of bytes).lines old new
Stops Answers last from bytes source_failed sink_failed old new Read =
    source_failed × ((to : _) × Says Answers from (heard_of bytes).lines to GoesOn old new)
Stops Answers last from bytes source_failed sink_failed old new Write =
    sink_failed × ((text : List ℕ) × IsSession Answers last from bytes text × AddsPrefix old new text)

-- The cause, and what the sink took, where the last line couldn't be written: nothing without memory, a first part
-- where the sink failed.
abbrev pub LosesLast : List ℕ → Type 0 → Option (List ℕ) → Option (List ℕ) → ServeFault → Type 0
LosesLast text sink_failed old new Memory = Adds old new []
LosesLast text sink_failed old new Read = ⊥
LosesLast text sink_failed old new Write = sink_failed × AddsPrefix old new text
