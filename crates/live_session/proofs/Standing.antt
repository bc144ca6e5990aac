-- Whether the next table is due, and whether all is done.
use Rattle.std.proofs.Common.{◌≡◌, ℕ, ◌+◌, ◌≤◌, Bool, true, false, List, length, Option, Some, None, sym, subst, arith}
use Rattle.std.specs.Prelude.{◌↔◌, IsTrue, MatchOption}
use Rattle.rail_model.specs.Exchange.{IsDue}
use Rattle.rail_model.specs.Journal.{IsDone}
use Rattle.rail_model.specs.State.{Arrived}
use Rattle.rail_model.specs.Table.{Table}
use Rattle.rail_model.specs.Yard.{Offer, Yard, in_force, next_offer, IsNextDue, IsOpen}

-- the same of the table in force and the next one
due_same : (tables : List Offer) (y : Yard) (T : Table) (next : Offer) → T ≡ in_force tables y
    → next ≡ next_offer tables y
    → IsDue T y.positions y.moves next.after → IsDue (in_force tables y) y.positions y.moves (next_offer tables y).after
due_same tables y T next table offer due =
    subst (λ (U : Table). IsDue U y.positions y.moves (next_offer tables y).after) table
    (subst (λ (o : Offer). IsDue T y.positions y.moves o.after) offer due)

pub due_matches : (tables : List Offer) (y : Yard) (T : Table) (next : Offer) (r : Option ℕ) → T ≡ in_force tables y
    → next ≡ next_offer tables y
    → IsOpen tables y
    → MatchOption r (IsDue T y.positions y.moves next.after → ⊥)
    (λ t. (t ≡ y.tried + 1) × IsDue T y.positions y.moves next.after)
    → MatchOption r (IsNextDue tables y → ⊥) (λ t. (t ≡ y.tried + 1) × IsNextDue tables y)
due_matches tables y T next (Some t) table offer more is = (is.0, (more, due_same tables y T next table offer is.1))
due_matches tables y T next None table offer more is =
    λ due. is (subst (λ (o : Offer). IsDue T y.positions y.moves o.after) (sym offer)
    (subst (λ (U : Table). IsDue U y.positions y.moves (next_offer tables y).after) (sym table) due.1))

-- where a table is open, not all is done
pub open_isnt_done : (tables : List Offer) (y : Yard) → IsOpen tables y → IsTrue false ↔ IsDone tables y
open_isnt_done tables y more = (λ e. absurd (let f : false ≡ true = e in cc), λ done. absurd (done.1 more))

-- where none is, all is done where all trains have arrived
pub done_matches : (tables : List Offer) (y : Yard) (T : Table) (b : Bool) → T ≡ in_force tables y
    → length tables ≤ y.tried + 1
    → (IsTrue b ↔ Arrived T y.positions) → IsTrue b ↔ IsDone tables y
done_matches tables y T b table none is = (
  λ yes. (subst (λ (U : Table). Arrived U y.positions) table (is.0 yes), λ more. omega (arith, none, more)),
  λ done. is.1 (subst (λ (U : Table). Arrived U y.positions) (sym table) done.0),
)
