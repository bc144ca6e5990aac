-- Least cores: cores that no smaller core is within.
use Rattle.std.specs.Prelude.{ℕ, ◌<◌, List, IsTrue}
use Rattle.rail_model.specs.Table.{Table, trains}
use Rattle.state_core.specs.Core.{has, IsCore}

-- Each train of the part is one of the group.
abbrev pub IsWithin : Table → List ℕ → List ℕ → Type 0
IsWithin T part group = (i : ℕ) → i < trains T → IsTrue (has part i) → IsTrue (has group i)

-- No core of the state is within the group.
abbrev pub HasNoCore : Table → List ℕ → List ℕ → Type 0
HasNoCore T p group = (part : List ℕ) → IsCore T p part → IsWithin T part group → ⊥

-- The part of the group is a core, and each core within the group is within it.
pub record IsGreatestCore (T : Table) (p group part : List ℕ) : Type 0 where
  pub core : IsCore T p part
  pub inside : IsWithin T part group
  pub greatest : (other : List ℕ) → IsCore T p other → IsWithin T other group → IsWithin T other part

-- Without train i, if the group has it, no core is within the group.
abbrev pub IsNeeded : Table → List ℕ → List ℕ → ℕ → Type 0
IsNeeded T p group i =
    IsTrue (has group i) → (part : List ℕ) → IsCore T p part → IsWithin T part group → IsTrue (has part i)

-- The group is a core, and each core within it has all its trains.
pub record IsLeastCore (T : Table) (p group : List ℕ) : Type 0 where
  pub core : IsCore T p group
  pub least : (part : List ℕ) → IsCore T p part → IsWithin T part group → IsWithin T group part
