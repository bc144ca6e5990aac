-- Whether the next table is due.
use Rattle.std.proofs.Common.{◌≡◌, Bool, List, refl, sym, ap, subst}
use Rattle.std.specs.Prelude.{◌↔◌, IsTrue}
use Rattle.rail_model.specs.Exchange.{Admits, IsDue}
use Rattle.rail_model.specs.declared.types.Tried.{Tried}
use Rattle.rail_model.specs.Table.{Table}
use Rattle.table_exchange.proofs.Standings.{admits_same}
use Rattle.rail_model.specs.Yard.{Offer, Yard, in_force, next_offer, IsNextDue, IsOpen}

pub due_next : (tables : List Offer) (y : Yard) (T : Table) (next : Offer) (due : Bool) → T ≡ in_force tables y
    → next ≡ next_offer tables y
    → IsOpen tables y → (IsTrue due ↔ IsDue T y.positions y.moves next.after) → IsTrue due ↔ IsNextDue tables y
due_next tables y T next due table offer is_open is = (
  λ yes. (
    is_open,
    subst (λ (U : Table). IsDue U y.positions y.moves (next_offer tables y).after) table
        (subst (λ (o : Offer). IsDue T y.positions y.moves o.after) offer (is.0 yes)),
  ),
  λ is_due. is.1 (subst (λ (o : Offer). IsDue T y.positions y.moves o.after) (sym offer)
      (subst (λ (U : Table). IsDue U y.positions y.moves (next_offer tables y).after) (sym table) is_due.1)),
)

pub next_admits : (tables : List Offer) (y : Yard) (T : Table) (next : Offer) (r : Tried) → T ≡ in_force tables y
    → next ≡ next_offer tables y
    → Admits T next.table y.positions r → Admits (in_force tables y) (next_offer tables y).table y.positions r
next_admits tables y T next r table offer admits =
    admits_same T (in_force tables y) next.table (next_offer tables y).table y.positions y.positions r table
    (ap (λ (o : Offer). o.table) offer) refl admits
