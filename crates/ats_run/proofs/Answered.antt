-- From what was read and written to the cause of a call's end.
use Rattle.std.proofs.Common.{◌≡◌, ◌∙◌, ◌⊎◌, ℕ, ◌+◌, ◌<◌, List, [], length, None, Some, refl, sym, subst, inl, inr}
use Rattle.std.specs.Prelude.{Option, Result, Ok, Err, IfErr, OnOk, IsOkAnd, IsErrAnd, MatchResult}
use Rattle.std.specs.Io.KnownBytes.{IsAtEnd}
use Rattle.std.proofs.lemmas.List.{append-nil}
use Rattle.ats_io.specs.Bytes.{Adds, AddsPrefix, ConsumesAtMost}
use Rattle.ats_words.specs.declared.orders.Order.{Order}
use Rattle.ats_words.specs.declared.orders.Order.TheVariants.{Run, Resume, Check, Verify, Migrate, Make, Derive, Repair, Simulate, Generate, Drill, Weave}
use Rattle.ats_answers.specs.declared.failure.Failure.{Failure}
use Rattle.ats_answers.specs.declared.failure.Failure.TheVariants as failure
use Rattle.ats_run.specs.Causes.{Call, call_of, IsOrderOf, IsReadWhole, IsServed, IsCause, IsUnread, most_bytes}
use Rattle.ats_run.specs.Command.{Comes}
use Rattle.document_generator.specs.Generated.{generated}
use Rattle.ats_answers.specs.Making.{full_budget}
use Rattle.ats_run.specs.Orders.{Reads, OnInput}
use Rattle.ats_run.specs.Serving.{SourceSeen, SinkSeen, Serves}
use Rattle.ats_answers.proofs.Outside.{IsOutside, never_no_doc, never_unmade, never_underived, never_repaired, never_unchecked, never_unverified, never_unresumed}
use Rattle.ats_run.proofs.Reading.{on_input, of_bytes}

-- no command comes to a failure of words or devices
never : (order : Order) (input : List ℕ) (e : Failure) → IsOutside e → Comes order input (Err e) → ⊥
never (Run w r k) input e o h = never_unchecked input e o h
never (Resume w r k) input e o h = never_unresumed input e o h
never Check input e o h = never_unchecked input e o h
never Verify input e o h = never_unverified input e o h
never Migrate input e o h = never_no_doc input e o h
never (Make b) input e o h = never_unmade input b e o h
never (Derive m b) input e o h = never_underived input m b e o h
never (Repair b r) input e o h = never_repaired input b r e o h
never Simulate input e o h = never_unchecked input e o h
never (Generate s n) input e o h = never_unmade (generated s n) full_budget e o h
never (Drill s n w) input e o h = never_unmade (generated s n) full_budget e o h
never (Weave s k) input e o h = never_unchecked input e o h

-- what a command comes to on the bytes that were read is the cause of the end of its call
pub answered : (call : Call) (order : Order) (bytes : List ℕ) (e : Failure) → call.order ≡ Some order → IsOrderOf call order
    → OnInput order call.held (λ input. bytes ≡ input) → Comes order bytes (Err e) → IsCause call e
answered call order bytes failure.Words asked whole same h = absurd (never order bytes failure.Words (inl refl) h)
answered call order bytes failure.ReadFault asked whole same h = absurd (never order bytes failure.ReadFault (inr (inl refl)) h)
answered call order bytes failure.WriteFault asked whole same h = absurd (never order bytes failure.WriteFault (inr (inr (inl refl))) h)
answered call order bytes failure.TooLong asked whole same h = absurd (never order bytes failure.TooLong (inr (inr (inr refl))) h)
answered call order bytes failure.Memory asked whole same h = tt
answered call order bytes e asked whole same h = (order, asked, (whole, of_bytes order call.held bytes (λ input. Comes order input (Err e)) same h))

-- why there is no text is the cause
no_text : (call : Call) (order : Order) (bytes : List ℕ) (e : Failure) → call.order ≡ Some order → IsOrderOf call order
    → OnInput order call.held (λ input. bytes ≡ input) → (e ≡ failure.Memory) ⊎ Comes order bytes (Err e) → IsCause call e
no_text call order bytes e asked whole same h = elim h [
  | inl is ↦ subst (IsCause call) (sym is) tt
  | inr comes ↦ answered call order bytes e asked whole same comes
]

-- no command comes to a fault of its sink
not_written : (order : Order) (input : List ℕ) (e : Failure) → (e ≡ failure.Memory) ⊎ Comes order input (Err e) → e ≡ failure.WriteFault → ⊥
not_written order input e h is = elim h [ inl memory ↦ cc | inr comes ↦ never order input e (inr (inr (inl is))) comes ]

-- what was read whole comes to a text, of which the fact holds
is_served : (order : Order) (held left : Option (List ℕ)) (bytes text : List ℕ) (Taken : List ℕ → Type 0) → IsReadWhole order held (IsAtEnd left)
    → OnInput order held (λ input. bytes ≡ input) → Comes order bytes (Ok text) → Taken text → IsServed (Some order) held left Taken
is_served order held left bytes text Taken whole same comes taken =
    (order, refl, whole, of_bytes order held bytes (λ input. (written : List ℕ) × Comes order input (Ok written) × Taken written) same (text, comes, taken))

-- why an input was not read is the cause
no_input : (call : Call) (order : Order) (e : Failure) → call.order ≡ Some order → Reads order → IsUnread call.held call.source_failed e → IsCause call e
no_input call order e asked reads h = elim h [
  | inl is ↦ subst (IsCause call) (sym is) tt
  | inr (inl broken) ↦ subst (IsCause call) (sym broken.0) (order, asked, (reads, broken.1))
  | inr (inr long) ↦ subst (IsCause call) (sym long.0) (order, asked, (reads, on_input order call.held (λ input. most_bytes < length input) reads long.1))
]

-- a sink that doesn't fail isn't why an input was not read
not_of_sink : (held : Option (List ℕ)) (failed : Type 0) (e : Failure) → IsUnread held failed e → e ≡ failure.WriteFault → ⊥
not_of_sink held failed e h is = elim h [ inl memory ↦ cc | inr (inl broken) ↦ let same = broken.0 in cc | inr (inr long) ↦ let same = long.0 in cc ]

-- a sink that was not touched has taken nothing
pub took_nothing : (taken : Option (List ℕ)) → Adds taken taken []
took_nothing None = tt
took_nothing (Some bytes) = sym (append-nil bytes)

-- A call that serves an order, by what it knows of its source and its sink.
module _ (order : Order) (source : SourceSeen) (sink : SinkSeen) (untouched : (Reads order → ⊥) → source.same)
    (at_most : ConsumesAtMost (most_bytes + 1) source.held source.left) where
  abbrev call : Call
  call = call_of (Some order) source.held source.left source.failed sink.failed

  -- its input was not read, and nothing was written
  pub unread : (result : Result (Unit {0}) Failure) (e : Failure) → IsErrAnd result (λ y. y ≡ e) → Reads order × IsUnread source.held source.failed e
      → Adds sink.before sink.now [] → Serves (Some order) result source sink
  unread (Ok done) e handed why none = absurd handed
  unread (Err y) e handed why none = record {
    done = tt;
    cause = subst (IsCause call) (sym handed) (no_input call order e refl why.0 why.1);
    nothing = λ _. none;
    prefix = λ is. absurd (let fault : y ≡ failure.WriteFault = cc in not_of_sink source.held source.failed e why.1 (sym handed ∙ fault));
    untouched = untouched;
    at_most = at_most;
  }

  -- its input was read, and of its answer this was written
  module _ (input read : List ℕ) (is : read ≡ input) (whole : IsReadWhole order source.held (IsAtEnd source.left))
      (got : OnInput order source.held (λ all. input ≡ all)) where
    same : OnInput order source.held (λ all. read ≡ all)
    same = subst (λ (bytes : List ℕ). OnInput order source.held (λ all. bytes ≡ all)) (sym is) got

    pub wrote : {A : Type 0} (answer : Result A Failure) (result : Result (Unit {0}) Failure) (bytes_of : A → List ℕ)
        → MatchResult answer (λ text. Comes order read (Ok (bytes_of text))) (λ e. (e ≡ failure.Memory) ⊎ Comes order read (Err e))
        → OnOk result (IsOkAnd answer (λ text. Adds sink.before sink.now (bytes_of text)))
        → IfErr result (λ e. IsErrAnd answer (λ why. why ≡ e) × Adds sink.before sink.now []
        ⊎ (e ≡ failure.WriteFault) × sink.failed × IsOkAnd answer (λ text. AddsPrefix sink.before sink.now (bytes_of text)))
        → Serves (Some order) result source sink
    wrote (Ok text) (Ok v) bytes_of comes all failed = record {
      done = is_served order source.held source.left read (bytes_of text) (Adds sink.before sink.now) whole same comes all;
      cause = tt;
      nothing = tt;
      prefix = λ no_fault. absurd (cc);
      untouched = untouched;
      at_most = at_most;
    }
    wrote (Err why) (Ok v) bytes_of comes all failed = absurd all
    wrote (Ok text) (Err y) bytes_of comes all failed = elim failed [
      | inl other ↦ absurd other.0
      | inr fault ↦ record {
        done = tt;
        cause = subst (IsCause call) (sym fault.0) (order, refl, (whole, fault.1));
        nothing = λ no. absurd (no fault.0);
        prefix = λ _. is_served order source.held source.left read (bytes_of text) (AddsPrefix sink.before sink.now) whole same comes fault.2;
        untouched = untouched;
        at_most = at_most;
      }
    ]
    wrote (Err why) (Err y) bytes_of comes all failed = elim failed [
      | inl handed ↦ record {
        done = tt;
        cause = subst (IsCause call) handed.0 (no_text call order read why refl whole same comes);
        nothing = λ _. handed.1;
        prefix = λ told. absurd (let fault : y ≡ failure.WriteFault = cc in not_written order read why comes (handed.0 ∙ fault));
        untouched = untouched;
        at_most = at_most;
      }
      | inr fault ↦ absurd fault.2
    ]
