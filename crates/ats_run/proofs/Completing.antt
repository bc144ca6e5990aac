-- A good input ends well unless memory or a device fails.
use Rattle.std.proofs.Common.{◌≡◌, ◌⊎◌, ℕ, ◌<◌, List, length, Some, refl, sym, ◌∙◌, ap, subst, arith, inl, inr}
use Rattle.std.specs.Prelude.{Err}
use Rattle.ats_words.specs.declared.orders.Order.{Order}
use Rattle.ats_words.specs.declared.orders.Order.TheVariants.{Run, Resume, Check, Verify, Migrate, Make, Derive, Repair, Simulate, Generate, Drill, Weave}
use Rattle.ats_answers.specs.declared.status.Status.{Status}
use Rattle.ats_answers.specs.declared.failure.Failure.{Failure}
use Rattle.ats_answers.specs.declared.failure.Failure.TheVariants as failure
use Rattle.ats_run.specs.Causes.{Call, Asked, IsOrderOf, IsCause, most_bytes}
use Rattle.ats_run.specs.Command.{Comes}
use Rattle.ats_run.specs.Complete.{IsGoodInput, IsDoneOrMemory}
use Rattle.ats_answers.specs.Ending.{status_of}
use Rattle.document_generator.specs.Generated.{generated}
use Rattle.ats_answers.specs.Making.{full_budget}
use Rattle.ats_run.specs.Orders.{Reads, OnInput, HoldsInput}
use Rattle.ats_answers.specs.Report.{IsLineMade}
use Rattle.ats_answers.proofs.AcceptedInput.{not_unchecked}
use Rattle.ats_answers.proofs.Suited.{not_unverified, not_unresumed, not_no_doc, not_unmade, not_underived, not_repaired}
use Rattle.ats_run.proofs.Reading.{of_input}

-- a good input is refused for nothing
not_refused : (order : Order) (input : List ℕ) → IsGoodInput order input → (e : Failure) → Comes order input (Err e) → ⊥
not_refused (Run w r k) input good e h = not_unchecked input good.1 e h
not_refused Check input good e h = not_unchecked input good.1 e h
not_refused (Resume w r k) input good e h = not_unresumed input good.1 e h
not_refused Verify input good e h = not_unverified input good.1 e h
not_refused Migrate input good e h = not_no_doc input good.1.0 good.1.1 e h
not_refused (Make b) input good e h = not_unmade input b good.1 e h
not_refused (Derive m b) input good e h = not_underived input m b good.1 e h
not_refused (Repair b r) input good e h = not_repaired input b r good.1 e h
not_refused Simulate input good e h = not_unchecked input good.1 e h
not_refused (Generate s n) input good e h = not_unmade (generated s n) full_budget good.1 e h
not_refused (Drill s n w) input good e h = not_unmade (generated s n) full_budget good.1 e h
not_refused (Weave s k) input good e h = not_unchecked input good.1 e h

-- what a call knows of a good input
pub record IsGoodCall (call : Call) (order : Order) (input : List ℕ) : Type 0 where
  pub asked : call.order ≡ Some order
  pub held : HoldsInput order call.held input
  pub good : IsGoodInput order input
  pub source : call.source_failed → ⊥
  pub sink : call.sink_failed → ⊥

-- the order that was asked for is the one of a good call
asked_for : (call : Call) (order : Order) (input : List ℕ) → IsGoodCall call order input → (P : Order → Type 0) → Asked call P → P order
asked_for call order input g P h =
    let both = sym h.1 ∙ g.asked in
    let same : h.0 ≡ order = cc in
    subst P same h.2

-- a command's refusal of a good input
refused : (call : Call) (order : Order) (input : List ℕ) → IsGoodCall call order input → (e : Failure)
    → Asked call (λ asked. IsOrderOf call asked × OnInput asked call.held (λ input. Comes asked input (Err e))) → ⊥
refused call order input g e h =
    let here = asked_for call order input g (λ asked. IsOrderOf call asked × OnInput asked call.held (λ input. Comes asked input (Err e))) h in
    not_refused order input g.good e (of_input order call.held input (λ input. Comes order input (Err e)) g.held here.1)

too_long : (call : Call) (order : Order) (input : List ℕ) → IsGoodCall call order input → IsCause call failure.TooLong → ⊥
too_long call order input g h =
    let here = asked_for call order input g (λ asked. Reads asked × OnInput asked call.held (λ input. most_bytes < length input)) h in
    let long : most_bytes < length input = of_input order call.held input (λ input. most_bytes < length input) g.held here.1 in
    let few = g.good.0 in
    omega arith

-- the refusal of a good call is out of memory
only_memory : (call : Call) (order : Order) (input : List ℕ) → IsGoodCall call order input → (e : Failure) → IsCause call e → e ≡ failure.Memory
only_memory call order input g failure.Memory h = refl
only_memory call order input g failure.Words h = let both = sym h ∙ g.asked in absurd cc
only_memory call order input g failure.ReadFault h = absurd (g.source h.2.1)
only_memory call order input g failure.WriteFault h = absurd (g.sink h.2.1)
only_memory call order input g failure.TooLong h = absurd (too_long call order input g h)
only_memory call order input g e h = absurd (refused call order input g e h)

-- a good call that fails tells out of memory
pub ends : (call : Call) (order : Order) (input : List ℕ) → IsGoodCall call order input → (cause told : Failure) (s : Status) → IsCause call cause
    → (told ≡ cause) ⊎ ((told ≡ failure.Memory) × IsLineMade cause) → s ≡ status_of told → IsDoneOrMemory s
ends call order input g cause told s h kept is =
    let memory : told ≡ failure.Memory = elim kept [ inl same ↦ same ∙ only_memory call order input g cause h | inr (memory, made) ↦ memory ] in
    inr (is ∙ ap status_of memory)
