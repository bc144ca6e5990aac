-- What a call of the program comes to over devices in memory.
use Rattle.std.specs.Prelude.{◌≡◌, ◌≢◌, ◌⊎◌, ℕ, ◌+◌, List, [], Option, Some, IfSome, option_map}
use Rattle.clap.specs.Words.{Text}
use Rattle.ats_io.specs.Bytes.{Adds, AddsPrefix, ConsumesAtMost}
use Rattle.ats_io.specs.Memory.{HasMade, IsFull}
use Rattle.ats_words.specs.declared.orders.Order.{Order}
use Rattle.ats_answers.specs.declared.status.Status.TheVariants.{Done, WriteFault}
use Rattle.ats_run.specs.Orders.{order_of, Reads, HoldsInput}
use Rattle.ats_run.specs.Causes.{Call, IsServed, TellsCause, most_bytes}
use Rattle.ats_run.specs.Complete.{IsGoodInput, IsDoneOrMemory}
use Rattle.ats_rows.specs.declared.calls.Played.{Played}

-- the bytes that the error sink took, where they are known
abbrev pub told_by : Played → Option (List ℕ)
told_by played = option_map (λ told. told.items) played.told

-- One of the reads with these numbers was made.
abbrev pub HasSourceFailed : List ℕ → Played → Type 0
HasSourceFailed reads played = HasMade reads played.reads

-- One of the writes with these numbers was made, or there was no room for a further byte.
abbrev pub HasSinkFailed : List ℕ → Played → Type 0
HasSinkFailed writes played = HasMade writes played.writes ⊎ IsFull played.written.items

-- the call of the program with these words on this input, by devices whose reads and writes with these numbers fail
abbrev pub call_of : List Text → List ℕ → List ℕ → List ℕ → Played → Call
call_of line input reads writes played = record {
  order = order_of line;
  held = Some input;
  at_end = played.left.items ≡ [];
  source_failed = HasSourceFailed reads played;
  sink_failed = HasSinkFailed writes played;
}

-- A call that ends well wrote what its order comes to on the input, and nothing else. Any other wrote the line of a refusal that has
-- its cause; it wrote nothing, or a first part where its sink failed. Where no device failed, a good input ends well, or there was no
-- memory. What is left of the input is its rest, or all of it where nothing is to be read.
pub record IsPlayed (line : List Text) (input reads writes : List ℕ) (played : Played) : Type 0 where
  pub done : played.status ≡ Done → IsServed (order_of line) (Some input) (Some played.left.items) (λ whole. played.written.items ≡ whole)
  pub quiet : played.status ≡ Done → Adds (Some []) (told_by played) []
  pub refused : played.status ≢ Done → TellsCause (call_of line input reads writes played) played.status ⊥ (Some []) (told_by played)
  pub nothing : played.status ≢ Done → played.status ≢ WriteFault → played.written.items ≡ []
  pub prefix : played.status ≡ WriteFault
      → IsServed (order_of line) (Some input) (Some played.left.items) (AddsPrefix (Some []) (Some played.written.items))
  pub complete : (order : Order) (bytes : List ℕ) → order_of line ≡ Some order → HoldsInput order (Some input) bytes → IsGoodInput order bytes
      → (HasSourceFailed reads played → ⊥) → (HasSinkFailed writes played → ⊥) → IsDoneOrMemory played.status
  pub untouched : IfSome (order_of line) (λ order. Reads order → ⊥) → played.left.items ≡ input
  pub at_most : ConsumesAtMost (most_bytes + 1) (Some input) (Some played.left.items)
