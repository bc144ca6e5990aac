-- What a session has written where it broke off.
use Rattle.std.specs.Prelude.{◌≡◌, ◌⊎◌, ℕ, List, Option}
use Rattle.ats_io.specs.Bytes.{Adds, AddsPrefix}
use Rattle.line_service.specs.declared.server.ServeFault.{ServeFault}
use Rattle.line_service.specs.declared.server.ServeFault.TheVariants.{Write}
use Rattle.line_service.specs.Answered.{AnswerRelation}
use Rattle.line_service.specs.Stopping.{Stops}

-- The sink failed within the first text; or it took that, and then what was written where the session broke off.
abbrev pub StopsTalking : {S : Type 0} → AnswerRelation S → (S → List ℕ) → S → List ℕ → List ℕ
    → Type 0 → Type 0 → Option (List ℕ) → Option (List ℕ) → ServeFault → Type 0
StopsTalking Answers last from ready bytes source_failed sink_failed old new fault =
    ((fault ≡ Write) × sink_failed × AddsPrefix old new ready)
    ⊎ ((between : Option (List ℕ)) × Adds old between ready
    × Stops Answers last from bytes source_failed sink_failed between new fault)
