-- Where nothing was kept yet, all that is kept is right.
use Rattle.zone_machine.proofs.Prelude.{◌≡◌, ℕ, zero, suc, replicate, Some, None, refl, sym, ap, ◌∙◌, slice_get, Footprint, claim_of, footprint_of, table_of, Setup}
use Rattle.move_claim.specs.Claims.{nothing_claimed}
use Rattle.zone_machine.specs.Keeping.{Kept, IsKept, AreKept}
use Rattle.zone_machine.proofs.Samples.{apart}

-- nothing is kept for an actor
abbrev pub unfilled : Kept
unfilled = record { table = None; place = 0; needs = nothing_claimed }

at_repeated : (n p : ℕ) (k : Kept) → slice_get (replicate n unfilled) p ≡ Some k → k ≡ unfilled
at_repeated zero p k e = absurd (cc e)
at_repeated (suc n) zero k e = cc e
at_repeated (suc n) (suc p) k e = at_repeated n p k e

pub none_kept : (n : ℕ) (S : Setup) → AreKept S (replicate n unfilled)
none_kept n S p k at t e = absurd (cc (sym (ap (λ (x : Kept). x.table) (at_repeated n p k at)) ∙ e))

-- what the first step of T0 needs may be kept at the first place, and nothing else
kept : IsKept apart 0 (record { table = Some 0; place = 0; needs = footprint_of apart.layout (table_of apart 0) (claim_of (table_of apart 0) 0 0 1) })
kept t is = let same : 0 ≡ t = cc is in ap (λ (n : ℕ). footprint_of apart.layout (table_of apart n) (claim_of (table_of apart n) 0 0 1)) same

empty : IsKept apart 0 (record { table = Some 0; place = 0; needs = nothing_claimed }) → ⊥
empty k = cc (ap (λ (f : Footprint). f.claim.steps) (k 0 refl))
