-- Worked tables with guards: a corridor that has a section of its own, a passing loop, a line of three.
use Rattle.std.specs.Prelude.{◌≡◌, [], ◌∷◌, pos, negsuc, false, refl}
use Rattle.rail_model.specs.Table.{Table}
use Rattle.rail_model.proofs.Samples.{corridor, loop}
use Rattle.state_core.specs.Guard.{stays_of, guarded}

-- the corridor's own section stays first, and the guard comes behind it
corridor-sections : (guarded corridor (stays_of corridor (1 ∷ 0 ∷ []) (0 ∷ 1 ∷ []) ∷ [])).sections
    ≡ record {
      limit = 1;
      changes = (pos 0 ∷ pos 1 ∷ pos 0 ∷ negsuc 0 ∷ []) ∷ (pos 0 ∷ pos 1 ∷ pos 0 ∷ negsuc 0 ∷ []) ∷ [];
    }
    ∷ record {
      limit = 1;
      changes = (pos 0 ∷ pos 1 ∷ negsuc 0 ∷ pos 0 ∷ []) ∷ (pos 1 ∷ negsuc 0 ∷ pos 0 ∷ pos 0 ∷ []) ∷ [];
    } ∷ []
corridor-sections = refl

-- a passing loop needs no guard, and stays as it is
loop-table : guarded loop [] ≡ loop
loop-table = refl

-- a line of three, where the first train ends before the others: the guard is against the second behind it
abbrev three : Table
three = record {
  missions =
      record { points = 0 ∷ 1 ∷ 2 ∷ []; exits = false } ∷ record { points = 0 ∷ 1 ∷ 2 ∷ 3 ∷ []; exits = false }
      ∷ record { points = 0 ∷ 1 ∷ 2 ∷ 3 ∷ []; exits = false } ∷ [];
  sections = [];
  connections = [];
}

three-sections : (guarded three (stays_of three (2 ∷ 1 ∷ 0 ∷ []) (0 ∷ 1 ∷ []) ∷ [])).sections
    ≡ record {
      limit = 1;
      changes =
          (pos 0 ∷ pos 0 ∷ pos 1 ∷ []) ∷ (pos 0 ∷ pos 1 ∷ negsuc 0 ∷ pos 0 ∷ []) ∷
          (pos 0 ∷ pos 0 ∷ pos 0 ∷ pos 0 ∷ []) ∷ [];
    } ∷ []
three-sections = refl
