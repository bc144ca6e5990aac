-- No train is unfinished exactly where all have arrived.
use Rattle.std.proofs.Common.{◌≡◌, ℕ, List, Bool, true, false, not, Option, Some, None, refl, inl, inr}
use Rattle.std.specs.Prelude.{◌↔◌, IsTrue, is_some}
use Rattle.std.proofs.lemmas.Bool.{cases_eq}
use Rattle.rail_model.specs.Table.{Table, last, place}
use Rattle.rail_model.specs.State.{Arrived}
use Rattle.rail_model.specs.Move.{IsFirstOrNone}
use Rattle.table_exchange.specs.Arrivals.{IsUnfinished}

pub arrived_unless : (T : Table) (p : List ℕ) → ((i : ℕ) → IsUnfinished T p i → ⊥) → Arrived T p
arrived_unless T p none i within = elim (cases_eq (place p i) (last T i)) [
  | inl same ↦ same
  | inr other ↦ absurd (none i (within, other))
]

pub none_unfinished : (T : Table) (p : List ℕ) (i : ℕ) → Arrived T p → IsUnfinished T p i → ⊥
none_unfinished T p i arrived unfinished = unfinished.1 (arrived i unfinished.0)

pub arrived_if_none : (T : Table) (p : List ℕ) (found : Option ℕ) (none : Bool) → IsFirstOrNone (IsUnfinished T p) found → is_some found ≡ not none
    → IsTrue none ↔ Arrived T p
arrived_if_none T p None true h is = (λ e. arrived_unless T p h, λ arrived. refl)
arrived_if_none T p None false h is = absurd cc
arrived_if_none T p (Some i) true h is = absurd cc
arrived_if_none T p (Some i) false h is = (λ e. absurd cc, λ arrived. absurd (none_unfinished T p i arrived h.0))
