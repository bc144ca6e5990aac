-- One combination of places: why it is no way out of a trap.
use Rattle.std.proofs.Common.{◌≡◌, ℕ, List, inl, inr, subst}
use Rattle.rail_model.specs.Table.{Table}
use Rattle.forbidden_states.specs.Forbid.{Stay}
use Rattle.state_core.specs.Trap.{IsAmong, IsKeptAtEnd, IsCrowded, IsOverWithin, Holds, group_of}

module _ (T : Table) (b : List Stay) (p group : List ℕ) (is : group ≡ group_of b) where
  pub holds_kept : ((s : Stay) → IsAmong b s → IsKeptAtEnd T p group s) → Holds T b p
  holds_kept each = inr (subst (λ g. (s : Stay) → IsAmong b s → IsKeptAtEnd T p g s) is each)

  pub holds_crowded : IsCrowded T p group → Holds T b p
  holds_crowded crowded = inl (inl (subst (IsCrowded T p) is crowded))

  pub holds_over : IsOverWithin T p group → Holds T b p
  holds_over over = inl (inr (subst (IsOverWithin T p) is over))
