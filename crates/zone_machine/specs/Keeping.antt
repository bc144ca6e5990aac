-- What a core keeps of its drivers' next steps.
use Rattle.std.specs.Prelude.{◌≡◌, ℕ, List, Option, Some, slice_get}
use Rattle.move_claim.specs.Claims.{Footprint, claim_of, footprint_of}
use Rattle.zone_machine.specs.World.{Setup}
use Rattle.zone_machine.specs.Needs.{table_of}

-- What a driver's next step needs at a place, under the table of this number, if one is kept.
pub record Kept : Type 0 where
  pub table : Option ℕ
  pub place : ℕ
  pub needs : Footprint

-- What is kept for a driver is what its next step needs.
abbrev pub IsKept : Setup → ℕ → Kept → Type 0
IsKept S p k =
    (t : ℕ) → k.table ≡ Some t → k.needs ≡ footprint_of S.layout (table_of S t) (claim_of (table_of S t) p k.place 1)

abbrev pub AreKept : Setup → List Kept → Type 0
AreKept S kept = (p : ℕ) (k : Kept) → slice_get kept p ≡ Some k → IsKept S p k
