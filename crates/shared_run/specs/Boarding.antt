-- Groups of passes that board a yard.
use Rattle.std.specs.Prelude.{◌≡◌, ℕ, ◌+◌, ◌%◌, ◌<◌, ◌≤◌, List, [], ◌∷◌, map, length, slice_index_or, true, All}
use Rattle.std.specs.List.{flat_map}
use Rattle.rail_model.specs.Yard.{control as control_number}
use Rattle.zone_locks.specs.Zones.{has}
use Rattle.zone_yard.specs.Setup.{SharedYard, most_passes}
use Rattle.zone_yard.specs.Passes.{Pass, Root, HasBoarded}
use Rattle.shared_run.specs.declared.groups.Group.{Group}
use Rattle.shared_run.specs.declared.groups.Group.TheVariants.{Drivers, Control}
use Rattle.shared_run.specs.Shared.{fresh_pass, fresh_passes}

-- the second list with the items of the first put before it one by one
abbrev pub onto : {A : Type 0} → List A → List A → List A
onto [] later = later
onto (x ∷ xs) later = onto xs (x ∷ later)

-- Each number comes once.
abbrev pub AreOnce : List ℕ → Type 0
AreOnce [] = Unit {0}
AreOnce (p ∷ later) = (has p later ≡ true → ⊥) × AreOnce later

abbrev pub numbers : List Pass → List ℕ
numbers passes = map (λ (p : Pass). p.number) passes

-- the passes of a group
abbrev pub passes_of : Group → List Pass
passes_of (Drivers drivers) = drivers.items
passes_of (Control control) = control ∷ []

-- the passes of all groups
abbrev pub passes_in : List Group → List Pass
passes_in groups = flat_map passes_of groups

-- The pass is one of the yard's, has a number that a pass can have, and has made no entry.
abbrev pub IsFresh : SharedYard → Pass → Type 0
IsFresh yard pass = (pass.yard ≡ yard) × (pass.number < most_passes) × (pass.mine ≡ [])

-- The passes boarded from the root, each for the first time.
pub record HaveBoarded (old : Root) (passes : List Pass) (new : Root) : Type 0 where
  pub now : new ≡ record old { boarded = onto (numbers passes) old.boarded; out = old.out + length passes }
  pub once : AreOnce old.boarded → AreOnce new.boarded
  pub each : All (IsFresh old.yard) passes

-- No train of this worker and of those after it has boarded, nor has the control.
abbrev pub AreAshore : ℕ → ℕ → Root → Type 0
AreAshore workers group root =
    ((p : ℕ) → group ≤ p % workers → HasBoarded root p → ⊥) × (HasBoarded root control_number → ⊥)

-- The group has these drivers.
abbrev pub HasDrivers : List Pass → Group → Type 0
HasDrivers passes (Drivers drivers) = drivers.items ≡ passes
HasDrivers passes (Control control) = ⊥

-- The group is this control.
abbrev pub IsControlGroup : Pass → Group → Type 0
IsControlGroup pass (Drivers drivers) = ⊥
IsControlGroup pass (Control control) = control ≡ pass

-- There is a group for each worker, with the passes of its trains, and then the control's.
pub record AreDealt (yard : SharedYard) (workers : ℕ) (groups : List Group) : Type 0 where
  pub count : length groups ≡ workers + 1
  pub drivers : (g : ℕ) (d : Group) → g < workers → HasDrivers (fresh_passes yard workers g) (slice_index_or groups g d)
  pub control : (d : Group) → IsControlGroup (fresh_pass yard control_number) (slice_index_or groups workers d)
