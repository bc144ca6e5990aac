-- Guards: sections behind those of a table, each of which forbids states from which not all trains can arrive.
use Rattle.std.specs.Prelude.{◌≡◌, ◌↔◌, All, ℕ, ◌+◌, ◌<◌, List, ◌++◌, length, map, filter, Some, slice_get}
use Rattle.rail_model.specs.Table.{Table, IsTable, trains, place}
use Rattle.rail_model.specs.State.{Legal}
use Rattle.rail_model.specs.Move.{IsOver}
use Rattle.rail_model.specs.Checks.{below}
use Rattle.forbidden_states.specs.Forbid.{Stay, AreStays, InStays, forbidding}
use Rattle.state_core.specs.Core.{has, IsCore, CanArrive}

-- the train at its place alone
abbrev pub stay_at : List ℕ → ℕ → Stay
stay_at p i = record { train = i; range = record { lo = place p i; hi = place p i } }

-- the trains of the group, each at its place alone
abbrev pub stays_of : Table → List ℕ → List ℕ → List Stay
stays_of T p group = map (stay_at p) (filter (has group) (below (trains T)))

-- the table with a section behind its own for each list of stays: share 1 in a stay, limit one less than the stays
abbrev pub guarded : Table → List (List Stay) → Table
guarded T guards = record {
  missions = T.missions;
  sections = T.sections ++ map (forbidding T.missions) guards;
  connections = T.connections;
}

-- Stays of different trains, so that from no state with all of them in their ranges all trains can arrive.
pub record IsGuard (T : Table) (b : List Stay) : Type 0 where
  pub stays : AreStays (trains T) b
  pub some : 0 < length b
  pub lost : (p : List ℕ) → Legal T p → InStays p b → CanArrive T p → ⊥

-- ---- what is so of guards

-- The trains of a core at their places are a guard.
abbrev pub CoresAreGuards : Type 0
CoresAreGuards = (T : Table) (p group : List ℕ) → IsTable T → IsCore T p group → IsGuard T (stays_of T p group)

-- A guard's section forbids exactly the states that have its trains in their ranges; all other sections forbid the same
-- states as before.
abbrev pub GuardsForbidTheirStays : Type 0
GuardsForbidTheirStays =
    (T : Table) (guards : List (List Stay)) (k : ℕ) (stays : List Stay) (p : List ℕ) →
    All (IsGuard T) guards → slice_get guards k ≡ Some stays → Legal T p →
    IsOver (guarded T guards) p (length T.sections + k) ↔ InStays p stays

-- From a legal state all trains can arrive under the table exactly where the guards permit it and all can arrive with
-- them.
abbrev pub GuardsLoseNothing : Type 0
GuardsLoseNothing =
    (T : Table) (guards : List (List Stay)) (p : List ℕ) → All (IsGuard T) guards → Legal T p →
    CanArrive T p ↔ (Legal (guarded T guards) p × CanArrive (guarded T guards) p)

-- A guard of the table with guards is a guard of the table as it was.
abbrev pub GuardsAddUp : Type 0
GuardsAddUp =
    (T : Table) (guards : List (List Stay)) (stays : List Stay) → All (IsGuard T) guards →
    IsGuard (guarded T guards) stays → IsGuard T stays
