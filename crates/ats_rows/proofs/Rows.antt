-- Where none of its calls is to fail, no device is said to have failed.
use Rattle.std.proofs.Common.{◌≡◌, ℕ, ◌<◌, List, [], length, sym, ◌∙◌, subst, arith, refl, inl, inr}
use Rattle.clap.specs.Words.{Text}
use Rattle.ats_io.specs.Memory.{HasMade}
use Rattle.ats_io.specs.declared.memory.room.TheConstants.{SINK_ROOM}
use Rattle.ats_answers.specs.declared.failure.Failure.{Failure}
use Rattle.ats_answers.specs.declared.failure.Failure.TheVariants as failure
use Rattle.ats_answers.specs.declared.status.Status.TheVariants as status
use Rattle.ats_run.specs.Causes.{IsCause}
use Rattle.ats_answers.specs.Ending.{status_of}
use Rattle.ats_rows.specs.declared.calls.Played.{Played}
use Rattle.ats_rows.specs.Calls.{IsPlayed, call_of}

-- of no call it can be said that it was made
none_made : (calls : ℕ) → HasMade [] calls → ⊥
none_made calls made = omega (arith, made.1.1)

-- each status of a device comes of one refusal
of_one : (e : Failure) → (status_of e ≡ status.ReadFault → e ≡ failure.ReadFault) × (status_of e ≡ status.WriteFault → e ≡ failure.WriteFault)
of_one failure.ReadFault = ((λ is. refl), (λ is. cc))
of_one failure.WriteFault = ((λ is. cc), (λ is. refl))
of_one failure.Words = ((λ is. cc), (λ is. cc))
of_one failure.Memory = ((λ is. cc), (λ is. cc))
of_one failure.TooLong = ((λ is. cc), (λ is. cc))
of_one (failure.Document e) = ((λ is. cc), (λ is. cc))
of_one (failure.Tree t e) = ((λ is. cc), (λ is. cc))
of_one (failure.Certificate t e) = ((λ is. cc), (λ is. cc))
of_one (failure.Spent t n) = ((λ is. cc), (λ is. cc))
of_one (failure.Stuck t p) = ((λ is. cc), (λ is. cc))
of_one (failure.Rounds t n p) = ((λ is. cc), (λ is. cc))
of_one (failure.Many t n) = ((λ is. cc), (λ is. cc))
of_one (failure.Connected t) = ((λ is. cc), (λ is. cc))
of_one failure.NoJournal = ((λ is. cc), (λ is. cc))
of_one (failure.Text e) = ((λ is. cc), (λ is. cc))
of_one (failure.Line e) = ((λ is. cc), (λ is. cc))

module _ (line : List Text) (input : List ℕ) (played : Played) where
  -- a call whose reads don't fail has no read fault
  pub no_read_fault : (writes : List ℕ) → IsPlayed line input [] writes played → played.status ≡ status.ReadFault → ⊥
  no_read_fault writes is fault =
      let t = is.refused (λ done. let both = sym fault ∙ done in cc) in
      let cause = subst (IsCause (call_of line input [] writes played)) ((of_one t.failure).0 (t.ends ∙ fault)) t.cause in
      none_made played.reads cause.2.1

  -- one whose writes don't fail, and whose text has room, has no write fault
  pub no_write_fault : (reads : List ℕ) → IsPlayed line input reads [] played → length played.written.items < SINK_ROOM → played.status ≡ status.WriteFault → ⊥
  no_write_fault reads is room fault =
      let t = is.refused (λ done. let both = sym fault ∙ done in cc) in
      let cause = subst (IsCause (call_of line input reads [] played)) ((of_one t.failure).1 (t.ends ∙ fault)) t.cause in
      elim (cause.2.1) [ inl made ↦ none_made played.writes made | inr full ↦ omega (arith, full, room) ]
