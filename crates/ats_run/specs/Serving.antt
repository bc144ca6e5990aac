-- What a call promises that serves what was asked for, whatever its answer is.
use Rattle.std.specs.Prelude.{◌≡◌, ◌≢◌, ℕ, ◌+◌, List, [], Option, Result, Err, IfSome, IfErr, OnOk}
use Rattle.ats_io.specs.Bytes.{Adds, AddsPrefix, ConsumesAtMost}
use Rattle.ats_io.specs.Faults.{Rose}
use Rattle.ats_words.specs.declared.orders.Order.{Order}
use Rattle.ats_answers.specs.declared.failure.Failure.{Failure}
use Rattle.ats_answers.specs.declared.failure.Failure.TheVariants.{WriteFault}
use Rattle.ats_run.specs.Causes.{call_of, IsServed, IsCause, most_bytes}
use Rattle.ats_run.specs.Orders.{Reads}

-- What a call knows of its source: the bytes that it held and those that it has left, where it tells them, whether it failed in the call,
-- and whether it is the same as before.
pub record SourceSeen : Type 1 where
  pub held : Option (List ℕ)
  pub left : Option (List ℕ)
  pub failed : Type 0
  pub same : Type 0

-- what a call knows of its source, by what the source tells
abbrev pub source_seen : {S : Type 0} → (S → Option (List ℕ)) → (S → ℕ) → S → S → SourceSeen
source_seen tells faults old new = record { held = tells old; left = tells new; failed = Rose (faults old) (faults new); same = new ≡ old }

-- What a call knows of its sink: the bytes that it took before and has taken now, where it tells them, and whether it failed in the call.
pub record SinkSeen : Type 1 where
  pub before : Option (List ℕ)
  pub now : Option (List ℕ)
  pub failed : Type 0

-- what a call knows of its sink, by what the sink tells
abbrev pub sink_seen : {K : Type 0} → (K → Option (List ℕ)) → (K → ℕ) → K → K → SinkSeen
sink_seen tells faults old new = record { before = tells old; now = tells new; failed = Rose (faults old) (faults new) }

-- Where it ends well, it wrote what was asked for. A failure has its cause; nothing was written, or a first part where the sink failed.
-- The source isn't touched where nothing is to be read.
pub record Serves (asked : Option Order) (result : Result (Unit {0}) Failure) (source : SourceSeen) (sink : SinkSeen) : Type 0 where
  pub done : OnOk result (IsServed asked source.held source.left (Adds sink.before sink.now))
  pub cause : IfErr result (IsCause (call_of asked source.held source.left source.failed sink.failed))
  pub nothing : IfErr result (λ e. e ≢ WriteFault → Adds sink.before sink.now [])
  pub prefix : result ≡ Err WriteFault → IsServed asked source.held source.left (AddsPrefix sink.before sink.now)
  pub untouched : IfSome asked (λ order. Reads order → ⊥) → source.same
  pub at_most : ConsumesAtMost (most_bytes + 1) source.held source.left
