-- A session that broke off after its first text.
use Rattle.std.proofs.Common.{◌⊎◌, ℕ, List, ◌++◌, Result, Ok, Err, inr}
use Rattle.std.specs.Prelude.{Option, IfErr}
use Rattle.std.specs.Io.KnownBytes.{Consumes}
use Rattle.ats_io.specs.Bytes.{Adds}
use Rattle.line_service.specs.declared.server.ServeFault.{ServeFault}
use Rattle.line_service.specs.declared.server.ServeFault.TheVariants.{Memory, Read, Write}
use Rattle.line_service.specs.Answered.{AnswerRelation, IsEndless}
use Rattle.line_service.specs.Stopping.{Stops}
use Rattle.dispatch_run.specs.Conversing.{StopsTalking}

module _ {S : Type 0} (Answers : AnswerRelation S) (last : S → List ℕ) (from : S) where
  -- a sink that failed in a part of a call failed in the call
  stops_later : (bytes : List ℕ) (source_failed sink_failed sink_now : Type 0) (old new : Option (List ℕ))
      (e : ServeFault)
      → (sink_now → sink_failed) → Stops Answers last from bytes source_failed sink_now old new e
      → Stops Answers last from bytes source_failed sink_failed old new e
  stops_later bytes source_failed sink_failed sink_now old new Memory later h = h
  stops_later bytes source_failed sink_failed sink_now old new Read later h = h
  stops_later bytes source_failed sink_failed sink_now old new Write later (so, text) = (later so, text)

  pub stops_talking : (ready first : List ℕ) (source_failed sink_failed sink_now : Type 0)
      (held left old between new : Option (List ℕ)) (result : Result (Unit {0}) ServeFault)
      → Adds old between ready → (sink_now → sink_failed)
      → IfErr result (λ fault. (heard : List ℕ) × Consumes held left heard
      × Stops Answers last from (first ++ heard) (source_failed ⊎ IsEndless heard) sink_now between new fault)
      → IfErr result (λ fault. (heard : List ℕ) × Consumes held left heard
      × StopsTalking Answers last from ready (first ++ heard)
      (source_failed ⊎ IsEndless heard) sink_failed old new fault)
  stops_talking ready first source_failed sink_failed sink_now held left old between new (Ok done) adds later stops = tt
  stops_talking ready first source_failed sink_failed sink_now held left old between new (Err e) adds later
      (heard, gave, stops) = (
        heard,
        gave,
        inr (
          between,
          adds,
          stops_later (first ++ heard)
              (source_failed ⊎ IsEndless heard) sink_failed sink_now between new e later stops,
        ),
      )
