-- Documents whose repairs end well are refused for nothing.
use Rattle.std.proofs.Common.{◌≡◌, ℕ, List, subst, inl, inr}
use Rattle.rail_model.specs.State.{Legal}
use Rattle.rail_model.specs.Table.{Table}
use Rattle.legal_state.proofs.Verdicts.{illegal_not_legal}
use Rattle.section_repair.specs.declared.repaired.Repair.TheVariants as repair
use Rattle.section_repair.proofs.OneAnswer.{repair_is_unique}
use Rattle.document_json.specs.Doc.{Doc, table_at}
use Rattle.ats_answers.specs.declared.failure.Failure.{Failure}
use Rattle.ats_answers.specs.declared.failure.Failure.TheVariants as failure
use Rattle.ats_answers.specs.Repairing.{RepairsNone, IsRefusedStart, FailsToRepair, HasRepair, IsRepairable}

-- two answers of a repair are one
repaired_or_not : (T : Table) (budget rounds t : ℕ) (P : Table → Type 0) → HasRepair T budget rounds P → (e : Failure) → RepairsNone T t budget rounds e → ⊥
repaired_or_not T budget rounds t P good (failure.Spent u n) h =
    let same = repair_is_unique T.missions budget rounds (repair.Done good.0 good.1 good.2) (repair.Spent h.1.0 n) good.3 h.1.1.0 in cc
repaired_or_not T budget rounds t P good (failure.Rounds u n p) h =
    let same = repair_is_unique T.missions budget rounds (repair.Done good.0 good.1 good.2) (repair.Rounds h.1.0 n p) good.3 h.1.1.0 in cc
repaired_or_not T budget rounds t P good (failure.Many u n) h =
    let same = repair_is_unique T.missions budget rounds (repair.Done good.0 good.1 good.2) (repair.Many h.1.0 n) good.3 h.1.1.0 in cc
repaired_or_not T budget rounds t P good e h = h

-- a start that is legal under the repaired table isn't refused
start_or_not : (T : Table) (start : List ℕ) (budget rounds : ℕ) → HasRepair T budget rounds (λ U. Legal U start) → (e : Failure)
    → IsRefusedStart T start budget rounds e → ⊥
start_or_not T start budget rounds good e h =
    let both = repair_is_unique T.missions budget rounds (repair.Done good.0 good.1 good.2) (repair.Done h.table h.tree h.repaired.0) good.3 h.repaired.1 in
    let same : good.0 ≡ h.table = cc in
    illegal_not_legal h.table start h.start.0 h.start.2 (subst (λ (U : Table). Legal U start) same good.4)

pub not_unrepaired : (D : Doc) (budget rounds : ℕ) → IsRepairable D budget rounds → (e : Failure) → FailsToRepair D budget rounds e → ⊥
not_unrepaired D budget rounds good e h = elim h [
  | inl c ↦ c.connected (good.unconnected c.table c.in_range)
  | inr (inl u) ↦ repaired_or_not (table_at D u.table) budget rounds u.table (λ U. Unit {0}) (good.each u.table u.in_range) e u.none
  | inr (inr s) ↦ start_or_not (table_at D 0) D.start budget rounds good.start e s.1
]
