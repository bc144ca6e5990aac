-- What a repair keeps: it forbids only what can't be completed, and all of that where its table is accepted.
use Rattle.std.specs.Prelude.{IsTrue, ◌≡◌, ◌≢◌, ◌⊎◌, ◌↔◌, ℕ, ◌<◌, ◌≤◌, pos, ◌<ℤ◌, List, []}
use Rattle.rail_model.specs.declared.types.Ask.TheVariants.{Occupied, Full}
use Rattle.rail_model.specs.Table.{Table, Mission, IsTable, trains, last, place, share}
use Rattle.rail_model.specs.State.{Legal}
use Rattle.rail_model.specs.Move.{Answers}
use Rattle.forbidden_states.specs.Forbid.{Stay, marked}
pub use Rattle.forbidden_states.specs.Completing.{Completable, IsApart, ForbidsOnlyIncompletable}
use Rattle.legal_state.specs.declared.judges.Illegal.TheVariants.{Over}
use Rattle.legal_state.specs.Illegal.{IsIllegal}
use Rattle.section_repair.specs.declared.repaired.Repair.{Repair}
use Rattle.section_repair.specs.declared.repaired.Repair.TheVariants.{Done, Spent, Rounds, Many}
use Rattle.section_repair.specs.Core.{waits_for, has, closure}
use Rattle.section_repair.specs.Repairs.{Treats, Repairs}

-- the table that a repair reached
abbrev pub table_of : Repair → Table
table_of (Done T c n) = T
table_of (Spent T n) = T
table_of (Rounds T n at) = T
table_of (Many T n) = T

-- Its table forbids only states that can't be completed, however it ends.
abbrev pub LosesNothing : List Mission → Repair → Type 0
LosesNothing M r = ForbidsOnlyIncompletable M (table_of r)

-- Where it ends with a certificate, a state with distinct points is legal exactly where it can be completed.
abbrev pub IsExact : List Mission → Repair → Type 0
IsExact M (Done T c n) = (p : List ℕ) → IsApart M p → Legal T p ↔ Completable M p
IsExact M _ = Unit {0}

-- The train has a share of the section at some place.
abbrev pub HasShare : Table → ℕ → ℕ → Type 0
HasShare T i s = (k : ℕ) × (k ≤ last T i) × (pos 0 <ℤ share T i s k)

-- Both states have the section's trains at the same places.
abbrev pub StandAlike : Table → ℕ → List ℕ → List ℕ → Type 0
StandAlike T s p q = (i : ℕ) → i < trains T → HasShare T i s → place p i ≡ place q i

-- Where the start is illegal since it is over a section, no state can be completed that has the section's trains at
-- their places of the start.
abbrev pub DoomsAlike : List Mission → Repair → Type 0
DoomsAlike M r =
    (start p : List ℕ) (s n l : ℕ) → IsIllegal (table_of r) start (Over s n l) → IsApart M p → StandAlike (table_of r) s p start
    → Completable M p → ⊥

-- Each section that any round made forbids only states that can't be completed.
abbrev pub EachRoundLosesNothing : Type 0
EachRoundLosesNothing =
    (M : List Mission) (budget : ℕ) (states : List (List ℕ)) (S : List (List Stay)) →
    Treats M budget [] states S → ForbidsOnlyIncompletable M (marked M S)

-- Missions, a budget and a number of rounds have at most one answer.
abbrev pub RepairIsUnique : Type 0
RepairIsUnique = (M : List Mission) (budget rounds : ℕ) (x y : Repair) → Repairs M budget rounds x → Repairs M budget rounds y → x ≡ y

-- Train i waits for train j, by the answer to its request.
abbrev pub WaitsFor : Table → List ℕ → ℕ → ℕ → Type 0
WaitsFor T p i j =
    Answers T p i (Occupied j)
    ⊎ ((s : ℕ) × (n : ℕ) × Answers T p i (Full s n) × (j < trains T) × (j ≢ i) × (pos 0 <ℤ share T j s (place p j)))

-- In a legal state the test of waiting says that.
abbrev pub WaitsAgree : Type 0
WaitsAgree =
    (T : Table) (p : List ℕ) (i j : ℕ) → IsTable T → Legal T p → i < trains T → j < trains T →
    IsTrue (waits_for T p i j) ↔ WaitsFor T p i j

-- With each member the group has all that the member waits for.
abbrev pub IsClosed : Table → List ℕ → List ℕ → Type 0
IsClosed T p group = (i j : ℕ) → j < trains T → IsTrue (has group i) → IsTrue (waits_for T p i j) → IsTrue (has group j)

-- The closure holds the train, is closed, and is within each closed group that holds the train.
pub record ClosureIsLeast (T : Table) (p : List ℕ) (i : ℕ) : Type 0 where
  pub holds : IsTrue (has (closure T p i) i)
  pub closed : IsClosed T p (closure T p i)
  pub least : (group : List ℕ) → IsTrue (has group i) → IsClosed T p group → (j : ℕ) → IsTrue (has (closure T p i) j) → IsTrue (has group j)

-- Each closure of a train is one.
abbrev pub ClosuresAreLeast : Type 0
ClosuresAreLeast = (T : Table) (p : List ℕ) (i : ℕ) → i < trains T → ClosureIsLeast T p i
