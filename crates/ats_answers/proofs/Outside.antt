-- No input is refused with a failure of words or devices.
use Rattle.std.proofs.Common.{◌≡◌, ◌⊎◌, ℕ, List, subst, inl, inr}
use Rattle.document_json.specs.Doc.{Doc, table_at}
use Rattle.ats_answers.specs.declared.failure.Failure.{Failure}
use Rattle.ats_answers.specs.declared.failure.Failure.TheVariants as failure
use Rattle.ats_answers.specs.Refusing.{RefusesDocument, RefusesCheck, RefusesVerify, RefusesResume, RefusesMake, RefusesDerive, RefusesRepair}
use Rattle.ats_answers.specs.Deriving.{derived, HasTooManyRings}
use Rattle.ats_answers.specs.Making.{MakesNone, tables_in, table_in}
use Rattle.ats_answers.specs.Repairing.{RepairsNone, FailsToRepair}
use Rattle.ats_answers.specs.Starting.{IsBadStart}

-- a failure of words or devices
abbrev pub IsOutside : Failure → Type 0
IsOutside e = (e ≡ failure.Words) ⊎ (e ≡ failure.ReadFault) ⊎ (e ≡ failure.WriteFault) ⊎ (e ≡ failure.TooLong)

-- what fails for each of them
outside : (P : Failure → Type 0) → (P failure.Words → ⊥) → (P failure.ReadFault → ⊥) → (P failure.WriteFault → ⊥) → (P failure.TooLong → ⊥)
    → (e : Failure) → IsOutside e → P e → ⊥
outside P words read write long e o h = elim o [
  | inl is ↦ words (subst P is h)
  | inr (inl is) ↦ read (subst P is h)
  | inr (inr (inl is)) ↦ write (subst P is h)
  | inr (inr (inr is)) ↦ long (subst P is h)
]

pub never_no_doc : (input : List ℕ) (e : Failure) → IsOutside e → RefusesDocument input e → ⊥
never_no_doc input e o h = outside (RefusesDocument input) (λ n. let is = n.1 in cc) (λ n. let is = n.1 in cc) (λ n. let is = n.1 in cc) (λ n. let is = n.1 in cc) e o h

pub never_underived : (input : List ℕ) (most budget : ℕ) (e : Failure) → IsOutside e → RefusesDerive input most budget e → ⊥
never_underived input most budget e o (inl none) = never_no_doc input e o none
never_underived input most budget e o (inr h) = elim h.2 [
  | inl many ↦
      outside (HasTooManyRings most (table_at h.0 many.table) many.table) (λ n. let is = n.0 in cc) (λ n. let is = n.0 in cc) (λ n. let is = n.0 in cc) (λ n. let is = n.0 in cc) e o
      many.many
  | inr (inl bad) ↦
      outside (IsBadStart (table_in (derived h.0 most) 0) h.0.start) (λ n. let is = n.1 in cc) (λ n. let is = n.1 in cc) (λ n. let is = n.1 in cc) (λ n. let is = n.1 in cc) e o
      bad.1
  | inr (inr none) ↦
      outside (MakesNone (table_in (derived h.0 most) none.2.table) none.2.table budget) (λ n. n) (λ n. n) (λ n. n) (λ n. n) e o none.2.none
]

never_unrepaired : (D : Doc) (budget rounds : ℕ) (e : Failure) → IsOutside e → FailsToRepair D budget rounds e → ⊥
never_unrepaired D budget rounds e o h = elim h [
  | inl c ↦ outside (λ f. f ≡ failure.Connected c.table) (λ n. cc) (λ n. cc) (λ n. cc) (λ n. cc) e o c.told
  | inr (inl u) ↦ outside (RepairsNone (table_at D u.table) u.table budget rounds) (λ n. n) (λ n. n) (λ n. n) (λ n. n) e o u.none
  | inr (inr s) ↦ outside (IsBadStart s.1.table D.start) (λ n. let is = n.1 in cc) (λ n. let is = n.1 in cc) (λ n. let is = n.1 in cc) (λ n. let is = n.1 in cc) e o s.1.start
]

pub never_unmade : (input : List ℕ) (b : ℕ) (e : Failure) → IsOutside e → RefusesMake input b e → ⊥
never_unmade input b e o h = elim h [ inl none ↦ never_no_doc input e o none | inr none ↦ outside (MakesNone (table_in (tables_in none.0) none.2.table) none.2.table b) (λ n. n) (λ n. n) (λ n. n) (λ n. n) e o none.2.none ]

pub never_repaired : (input : List ℕ) (budget rounds : ℕ) (e : Failure) → IsOutside e → RefusesRepair input budget rounds e → ⊥
never_repaired input budget rounds e o h = elim h [ inl none ↦ never_no_doc input e o none | inr un ↦ never_unrepaired un.0 budget rounds e o un.2 ]

pub never_unchecked : (input : List ℕ) (e : Failure) → IsOutside e → RefusesCheck input e → ⊥
never_unchecked input e o h = outside (RefusesCheck input) (λ n. n) (λ n. n) (λ n. n) (λ n. n) e o h

pub never_unverified : (input : List ℕ) (e : Failure) → IsOutside e → RefusesVerify input e → ⊥
never_unverified input e o h = outside (RefusesVerify input) (λ n. n.2) (λ n. n.2) (λ n. n.2) (λ n. n.2) e o h

pub never_unresumed : (input : List ℕ) (e : Failure) → IsOutside e → RefusesResume input e → ⊥
never_unresumed input e o h = outside (RefusesResume input) (λ n. n.2) (λ n. n.2) (λ n. n.2) (λ n. n.2) e o h
