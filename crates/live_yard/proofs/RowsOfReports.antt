-- Worked rows: the corridor A M N B against C N M D, where T0 was granted B and has reported only N.
use Rattle.std.proofs.Common.{◌≡◌, ◌∷◌, [], pos, negsuc, false, refl, lit<, lit≤}
use Rattle.rail_model.specs.Table.{Table}
use Rattle.live_yard.specs.Telling.{HasPassed, IsLeaving, taken}

abbrev corridor : Table
corridor = record {
  missions = record { points = 0 ∷ 1 ∷ 2 ∷ 3 ∷ []; exits = false }
      ∷ record { points = 4 ∷ 2 ∷ 1 ∷ 5 ∷ []; exits = false } ∷ [];
  sections = record {
    limit = 1;
    changes = (pos 0 ∷ pos 1 ∷ pos 0 ∷ negsuc 0 ∷ []) ∷ (pos 0 ∷ pos 1 ∷ pos 0 ∷ negsuc 0 ∷ []) ∷ [];
  } ∷ [];
  connections = [];
}

passed : HasPassed corridor 0 2 3 2
passed = (2, lit≤ tt, lit< tt, refl)

leaving : IsLeaving corridor (3 ∷ 0 ∷ []) (2 ∷ 0 ∷ []) 1 0
leaving = (lit< tt, (2, refl, passed))

not_clear : taken corridor (3 ∷ 0 ∷ []) (2 ∷ 0 ∷ []) 0 ≡ pos 1
not_clear = refl

clear : taken corridor (3 ∷ 0 ∷ []) (3 ∷ 0 ∷ []) 0 ≡ pos 0
clear = refl
