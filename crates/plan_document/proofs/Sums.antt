-- The changes up to a place add up to the share there.
use Rattle.std.proofs.Common.{◌≡◌, ◌+ℤ◌, ◌-ℤ◌, ℕ, zero, suc, ℤ, pos, List, arith}
use Rattle.std.proofs.lemmas.Int.{ints}
use Rattle.rail_model.specs.Sums.{total_below}
use Rattle.plan_document.specs.Shares.{change_at, share_at}

first : (share : ℕ) → pos 0 +ℤ (pos share -ℤ pos 0) ≡ pos share
first share = omega (arith, ints)

next : (total : ℤ) (before share : ℕ) → total ≡ pos before → total +ℤ (pos share -ℤ pos before) ≡ pos share
next total before share e = omega (arith, ints, e)

pub total-changes : (shares : List ℕ) (place : ℕ) → total_below (change_at shares) (suc place) ≡ pos (share_at shares place)
total-changes shares zero = first (share_at shares zero)
total-changes shares (suc place) =
    next (total_below (change_at shares) (suc place)) (share_at shares place) (share_at shares (suc place)) (total-changes shares place)
