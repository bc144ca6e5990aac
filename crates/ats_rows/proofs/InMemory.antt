-- What the clauses of the top call come to where its devices are in memory.
use Rattle.std.proofs.Common.{◌≡◌, ◌⊎◌, ℕ, ◌<◌, List, [], ◌++◌, take, Option, Some, Ok, sym, ap, ◌∙◌, subst, arith, inl, inr}
use Rattle.std.specs.Prelude.{Result, IfOk}
use Rattle.clap.specs.Words.{Text}
use Rattle.ats_io.specs.Bytes.{Adds, AddsPrefix}
use Rattle.ats_io.specs.Faults.{Rose}
use Rattle.ats_io.specs.Memory.{HasMade, IsFull}
use Rattle.ats_words.specs.declared.orders.Order.{Order}
use Rattle.ats_answers.specs.declared.failure.Failure.{Failure}
use Rattle.ats_answers.specs.declared.failure.Failure.TheVariants as failure
use Rattle.ats_answers.specs.declared.status.Status.{Status}
use Rattle.ats_run.specs.Causes.{IsServed, IsCause, TellsCause}
use Rattle.ats_run.specs.Command.{Comes}
use Rattle.ats_answers.specs.Report.{line_of}
use Rattle.ats_run.proofs.Reading.{on_weaker}
use Rattle.ats_rows.specs.declared.calls.Played.{Played}
use Rattle.ats_rows.specs.Calls.{IsPlayed}

-- of devices that had not failed before
risen : (before now : ℕ) → before ≡ 0 → Rose before now → 0 < now
risen before now new rose = omega (arith, new, rose)

-- a source whose count rose has made a read that was to fail
pub source_failed : (before now calls told : ℕ) (fails : List ℕ) → before ≡ 0 → told ≡ calls
    → (0 < now → HasMade fails calls) → Rose before now → HasMade fails told
source_failed before now calls told fails new counted made rose = subst (HasMade fails) (sym counted) (made (risen before now new rose))

-- so has a sink, or it is full
pub sink_failed : (before now calls told : ℕ) (fails taken written : List ℕ) → before ≡ 0 → told ≡ calls → written ≡ taken
    → (0 < now → HasMade fails calls ⊎ IsFull taken) → Rose before now → HasMade fails told ⊎ IsFull written
sink_failed before now calls told fails taken written new counted copied made rose = elim (made (risen before now new rose)) [
  | inl one ↦ inl (subst (HasMade fails) (sym counted) one)
  | inr full ↦ inr (subst IsFull (sym copied) full)
]

-- what a sink took, from one state to another, where both are equal to others
same_adds : (old before now after : Option (List ℕ)) (bytes : List ℕ) → old ≡ before → after ≡ now → Adds old now bytes → Adds before after bytes
same_adds old before now after bytes first then h = subst (λ (o : Option (List ℕ)). Adds before o bytes) (sym then) (subst (λ (o : Option (List ℕ)). Adds o now bytes) first h)

-- what was served, where something else is said of what was taken
pub served_weaker : (asked : Option Order) (held : Option (List ℕ)) (left rest : List ℕ) (Taken Other : List ℕ → Type 0) → rest ≡ left
    → ((written : List ℕ) → Taken written → Other written) → IsServed asked held (Some left) Taken → IsServed asked held (Some rest) Other
served_weaker asked held left rest Taken Other same f d = (
  d.0,
  d.1,
  (λ reads. (same ∙ (d.2 reads).0, (d.2 reads).1)),
  on_weaker d.0 held (λ input. (written : List ℕ) × Comes d.0 input (Ok written) × Taken written)
      (λ input. (written : List ℕ) × Comes d.0 input (Ok written) × Other written) (λ input k. (k.0, k.1, f k.0 k.2)) d.3,
)

-- what an empty sink has taken was written
pub wrote : (before taken copy written : List ℕ) → before ≡ [] → copy ≡ taken → Adds (Some before) (Some taken) written → copy ≡ written
wrote before taken copy written empty same h = same ∙ h ∙ ap (λ (b : List ℕ). b ++ written) empty

-- or a first part of it
pub wrote_part : (before taken copy written : List ℕ) → before ≡ [] → copy ≡ taken → AddsPrefix (Some before) (Some taken) written → AddsPrefix (Some []) (Some copy) written
wrote_part before taken copy written empty same h =
    (h.0, same_adds (Some before) (Some []) (Some taken) (Some copy) (take h.0 written) (ap Some empty) (ap Some same) h.1)

module _ (asked : Option Order) (held : Option (List ℕ)) (E S K E' S' K' : Type 0) (at_end : E → E') (source : S → S') (sink : K → K') where
  -- a cause is one also where the devices are spoken of in other words
  said_otherwise : (e : Failure) → IsCause (record { order = asked; held = held; at_end = E; source_failed = S; sink_failed = K }) e
      → IsCause (record { order = asked; held = held; at_end = E'; source_failed = S'; sink_failed = K' }) e
  said_otherwise failure.Words h = h
  said_otherwise failure.Memory h = tt
  said_otherwise failure.ReadFault h = (h.0, h.1, (h.2.0, source h.2.1))
  said_otherwise failure.WriteFault h = (h.0, h.1, ((λ reads. (at_end (h.2.0 reads).0, (h.2.0 reads).1)), sink h.2.1))
  said_otherwise failure.TooLong h = h
  said_otherwise e h = (h.0, h.1, ((λ reads. (at_end (h.2.0 reads).0, (h.2.0 reads).1)), h.2.1))

  -- a sink that told nothing before has told the line
  pub told_line : (err_failed : Type 0) (status : Status) (old now told : Option (List ℕ)) → old ≡ Some [] → told ≡ now → (err_failed → ⊥)
      → TellsCause (record { order = asked; held = held; at_end = E; source_failed = S; sink_failed = K }) status err_failed old now
      → TellsCause (record { order = asked; held = held; at_end = E'; source_failed = S'; sink_failed = K' }) status ⊥ (Some []) told
  told_line err_failed status old now told none same works t = record {
    failure = t.failure;
    ends = t.ends;
    cause = said_otherwise t.failure t.cause;
    prefix = (t.prefix.0, same_adds old (Some []) now told (take t.prefix.0 (line_of t.failure)) none same t.prefix.1);
    whole = λ _. same_adds old (Some []) now told (line_of t.failure) none same (t.whole works);
  }

-- or nothing
pub told_nothing : (old now told : Option (List ℕ)) → old ≡ Some [] → told ≡ now → Adds old now [] → Adds (Some []) told []
told_nothing old now told none same h = same_adds old (Some []) now told [] none same h

-- what is said of a call on what its source held is said of it on the input
pub played_by : {E : Type 0} (result : Result Played E) (line : List Text) (left input reads writes : List ℕ) → left ≡ input
    → IfOk result (IsPlayed line left reads writes) → IfOk result (IsPlayed line input reads writes)
played_by result line left input reads writes all h = subst (λ (i : List ℕ). IfOk result (IsPlayed line i reads writes)) all h

-- a count of 0 that is still 0 hasn't risen
pub never_rises : Rose 0 0 → ⊥
never_rises rose = omega (arith, rose)
