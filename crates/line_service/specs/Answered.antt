-- What a session writes: the answers to its lines, one after the other, and the last line.
use Rattle.std.specs.Prelude.{◌≡◌, ◌⊎◌, ℕ, ◌-◌, ◌^◌, ◌<◌, ◌≤◌, List, [], ◌∷◌, ◌++◌, length, Option}
use Rattle.std.specs.Io.KnownBytes.{Consumes, IsAtEnd}
use Rattle.ats_io.specs.Bytes.{Adds, AddsPrefix}
use Rattle.line_service.specs.declared.server.Course.{Course}
use Rattle.line_service.specs.declared.server.Course.TheVariants.{GoesOn, Ends}
use Rattle.line_service.specs.declared.server.ServeFault.{ServeFault}
use Rattle.line_service.specs.declared.server.ServeFault.TheVariants.{Memory, Read, Write}
use Rattle.line_service.specs.Lines.{heard_from, heard_of}

-- What lines are answered with: the server, the line, the server after it, the text, and what becomes of the session.
abbrev pub AnswerRelation : Type 0 → Type 1
AnswerRelation S = S → List ℕ → S → List ℕ → Course → Type 0

-- Lines are answered one after the other, up to one that ends the session: the lines after it have no answer.
abbrev pub Answered : {S : Type 0} → AnswerRelation S → S → List (List ℕ) → S → List ℕ → Course → Type 0
Answered Answers from [] to text course = (to ≡ from) × (text ≡ []) × (course ≡ GoesOn)
Answered Answers from (line ∷ later) to text course =
    (Answers from line to text Ends × (course ≡ Ends))
    ⊎ ((mid : _) × (first : List ℕ) × (rest : List ℕ) × Answers from line mid first GoesOn
    × Answered Answers mid later to rest course × (text ≡ first ++ rest))

-- Where so much of a line was kept before, the lines that these bytes complete are answered: the text grew by their
-- answers.
pub record HasAnswered {S : Type 0} (Answers : AnswerRelation S) (from : S) (begun bytes : List ℕ) (to : S)
    (course : Course) (before after : List ℕ) : Type 0 where
  pub added : List ℕ
  pub answers : Answered Answers from (heard_from begun bytes).lines to added course
  pub grown : after ≡ before ++ added

-- What a sink took is exactly the answers to these lines.
abbrev pub Says : {S : Type 0} → AnswerRelation S → S → List (List ℕ) → S → Course → Option (List ℕ)
    → Option (List ℕ) → Type 0
Says Answers from lines to course old new = (text : List ℕ) × Answered Answers from lines to text course
    × Adds old new text

-- What a sink took is exactly the answers to the first of these lines.
abbrev pub SaysSome : {S : Type 0} → AnswerRelation S → S → List (List ℕ) → Option (List ℕ) → Option (List ℕ) → Type 0
SaysSome Answers from lines old new =
    (first : List (List ℕ)) × (later : List (List ℕ)) × (to : _) × (course : Course)
    × (lines ≡ first ++ later) × Says Answers from first to course old new

-- The text is what a session writes whose input is these bytes: the answers to the complete lines, and the last line.
-- Bytes after the last newline are no line.
abbrev pub IsSession : {S : Type 0} → AnswerRelation S → (S → List ℕ) → S → List ℕ → List ℕ → Type 0
IsSession Answers last from bytes text =
    (to : _) × (answers : List ℕ) × (course : Course)
    × Answered Answers from (heard_of bytes).lines to answers course × (text ≡ answers ++ last to)

-- The cause, and what the sink took, where the answers to these lines broke off. Without memory it is the answers to
-- the first of them. Where the source failed, it is the answers to all of them. Where the sink failed, it is a first
-- part of the answers.
abbrev pub BreaksOff : {S : Type 0} → AnswerRelation S → S → List (List ℕ) → Type 0 → Type 0 → Option (List ℕ)
    → Option (List ℕ) → ServeFault → Type 0
BreaksOff Answers from lines source_failed sink_failed old new Memory = SaysSome Answers from lines old new
BreaksOff Answers from lines source_failed sink_failed old new Read = source_failed
    × ((to : _) × Says Answers from lines to GoesOn old new)
BreaksOff Answers from lines source_failed sink_failed old new Write =
    sink_failed × ((to : _) × (text : List ℕ) × (course : Course) × Answered Answers from lines to text course
    × AddsPrefix old new text)

-- The source gave so many bytes without an end that the service stopped.
abbrev pub IsEndless : List ℕ → Type 0
IsEndless heard = 2 ^ 64 - 1 ≤ length heard

-- What was heard and answered: the source gave these bytes, and what the sink took is exactly the answers to the
-- lines that they complete. What is kept of the line after them is known while the session goes on.
pub record Conversation {S : Type 0} (Answers : AnswerRelation S) (from : S) (begun : List ℕ) (to : S)
    (after : List ℕ) (course : Course)
    (held left old new : Option (List ℕ)) : Type 0 where
  pub heard : List ℕ
  pub gave : Consumes held left heard
  pub says : Says Answers from (heard_from begun heard).lines to course old new
  pub kept : course ≡ GoesOn → after ≡ (heard_from begun heard).begun

-- A session goes on after some bytes; or it ends, by a line or at the end of the input.
abbrev pub Comes : {S : Type 0} → AnswerRelation S → S → List ℕ → S → List ℕ
    → Option (List ℕ) → Option (List ℕ) → Option (List ℕ) → Option (List ℕ) → Course → Type 0
Comes Answers from begun to after held left old new GoesOn =
    (c : Conversation Answers from begun to after GoesOn held left old new) × (0 < length c.heard)
Comes Answers from begun to after held left old new Ends =
    (course : Course) × Conversation Answers from begun to after course held left old new
    × (course ≡ GoesOn → IsAtEnd left)

-- The source gave these bytes, and the answers to the lines that they complete broke off.
abbrev pub BreaksOffHearing : {S : Type 0} → AnswerRelation S → S → List ℕ → (List ℕ → Type 0) → Type 0
    → Option (List ℕ) → Option (List ℕ) → Option (List ℕ) → Option (List ℕ) → ServeFault → Type 0
BreaksOffHearing Answers from begun source_failed sink_failed held left old new e =
    (heard : List ℕ) × Consumes held left heard
    × BreaksOff Answers from (heard_from begun heard).lines (source_failed heard) sink_failed old new e

-- All lines of these bytes are answered, up to one that ends the session, or the input is at its end.
abbrev pub HasAnsweredAll : {S : Type 0} → AnswerRelation S → S → List ℕ → S → Option (List ℕ) → Option (List ℕ)
    → Option (List ℕ) → Type 0
HasAnsweredAll Answers from bytes to left old new =
    (course : Course) × Says Answers from (heard_of bytes).lines to course old new × (course ≡ GoesOn → IsAtEnd left)
