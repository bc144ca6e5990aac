-- Why a call may end with a refusal, and what it then writes.
use Rattle.std.specs.Prelude.{◌≡◌, ◌⊎◌, ℕ, ◌<◌, ◌≤◌, List, length, Option, Some, None, Ok, Err, IfSome}
use Rattle.std.specs.Io.KnownBytes.{IsAtEnd}
use Rattle.ats_io.specs.Bytes.{Adds, AddsPrefix}
use Rattle.ats_words.specs.declared.orders.Order.{Order}
use Rattle.ats_answers.specs.declared.status.Status.{Status}
use Rattle.ats_answers.specs.declared.failure.Failure.{Failure}
use Rattle.ats_answers.specs.declared.failure.Failure.TheVariants.{Words, Memory, ReadFault, WriteFault, TooLong}
use Rattle.ats_answers.specs.Ending.{status_of}
use Rattle.ats_run.specs.Orders.{Reads, OnInput}
use Rattle.ats_run.specs.Command.{Comes}
use Rattle.ats_answers.specs.Report.{line_of}

-- the greatest number of bytes of an input
abbrev pub most_bytes : ℕ
most_bytes = 16777216

-- What a call knows of the outside: the order that its words ask for, what the source held, whether it is at its end now, and
-- whether source and sink failed in the call.
pub record Call : Type 1 where
  pub order : Option Order
  pub held : Option (List ℕ)
  pub at_end : Type 0
  pub source_failed : Type 0
  pub sink_failed : Type 0

-- what a call knows of the outside
abbrev pub call_of : Option Order → Option (List ℕ) → Option (List ℕ) → Type 0 → Type 0 → Call
call_of order held left source_failed sink_failed = record {
  order = order;
  held = held;
  at_end = IsAtEnd left;
  source_failed = source_failed;
  sink_failed = sink_failed;
}

-- The words ask for an order, of which the fact holds.
abbrev pub Asked : Call → (Order → Type 0) → Type 0
Asked call P = (order : Order) × (call.order ≡ Some order) × P order

-- What the order reads was read to its end, and is not too long.
abbrev pub IsReadWhole : Order → Option (List ℕ) → Type 0 → Type 0
IsReadWhole order held at_end = Reads order → at_end × IfSome held (λ input. length input ≤ most_bytes)

abbrev pub IsOrderOf : Call → Order → Type 0
IsOrderOf call order = IsReadWhole order call.held call.at_end

-- The words ask for an order, what it reads was read whole, and it comes to bytes of which the fact holds. The source held these bytes,
-- and has these left.
abbrev pub IsServed : Option Order → Option (List ℕ) → Option (List ℕ) → (List ℕ → Type 0) → Type 0
IsServed asked held left Taken =
    (order : Order) × (asked ≡ Some order) × IsReadWhole order held (IsAtEnd left)
    × OnInput order held (λ input. (written : List ℕ) × Comes order input (Ok written) × Taken written)

-- The cause of a refusal. Being out of memory has none. What isn't of the words or of the source comes only after the input was read
-- whole.
abbrev pub IsCause : Call → Failure → Type 0
IsCause call Words = call.order ≡ None
IsCause call Memory = Unit {0}
IsCause call ReadFault = Asked call (λ order. Reads order × call.source_failed)
IsCause call TooLong = Asked call (λ order. Reads order × OnInput order call.held (λ input. most_bytes < length input))
IsCause call WriteFault = Asked call (λ order. IsOrderOf call order × call.sink_failed)
IsCause call e = Asked call (λ order. IsOrderOf call order × OnInput order call.held (λ input. Comes order input (Err e)))

-- Why an input was not read: being out of memory has no cause.
abbrev pub IsUnread : Option (List ℕ) → Type 0 → Failure → Type 0
IsUnread held source_failed e =
    (e ≡ Memory) ⊎ ((e ≡ ReadFault) × source_failed) ⊎ ((e ≡ TooLong) × IfSome held (λ input. most_bytes < length input))

-- A refusal with this status has its cause, and its line was written: whole, unless the error sink failed.
pub record TellsCause (call : Call) (status : Status) (err_failed : Type 0) (old new : Option (List ℕ)) : Type 0 where
  pub failure : Failure
  pub ends : status_of failure ≡ status
  pub cause : IsCause call failure
  pub prefix : AddsPrefix old new (line_of failure)
  pub whole : (err_failed → ⊥) → Adds old new (line_of failure)
