-- What is added to the facts that are found.
use Rattle.std.specs.Prelude.{◌≡◌, ◌⊎◌, ◌<◌, ℕ, true, Contains}
use Rattle.document_facts.specs.declared.fact.Fact.{Fact}
use Rattle.document_facts.specs.declared.found.Found.{Found}

-- There was no memory for some fact.
abbrev pub IsLost : Found → Type 0
IsLost found = found.is_out_of_memory ≡ true

-- The fact is among these, or there was no memory for some.
abbrev pub IsIn : Found → Fact → Type 0
IsIn found f = IsLost found ⊎ Contains found.facts.items f

-- A fact is added, if this is so; and nothing else.
pub record AddsIf (Holds : Type 0) (fact : Fact) (old new : Found) : Type 0 where
  pub still : (f : Fact) → IsIn old f → IsIn new f
  pub added : Holds → IsIn new fact
  pub only : (f : Fact) → Contains new.facts.items f → Contains old.facts.items f ⊎ (Holds × (fact ≡ f))

-- All facts of this kind are added, and none that isn't right.
pub record Adds (IsRight IsAdded : Fact → Type 0) (old new : Found) : Type 0 where
  pub still : (f : Fact) → IsIn old f → IsIn new f
  pub added : (f : Fact) → IsAdded f → IsIn new f
  pub only : (f : Fact) → Contains new.facts.items f → Contains old.facts.items f ⊎ IsRight f

-- It is this fact, and it is right.
abbrev pub Is : (Fact → Type 0) → Fact → Fact → Type 0
Is IsRight fact f = (fact ≡ f) × IsRight fact

-- It is of one of two kinds.
abbrev pub Or : (Fact → Type 0) → (Fact → Type 0) → Fact → Type 0
Or First Second f = First f ⊎ Second f

-- It is of a kind that has no fact.
abbrev pub Nothing : Fact → Type 0
Nothing f = ⊥

-- It is of the kind of some number below n.
abbrev pub Below : (ℕ → Fact → Type 0) → ℕ → Fact → Type 0
Below Kind n f = (k : ℕ) × (k < n) × Kind k f
