-- The missions and the tables of a layout.
use Rattle.std.specs.Prelude.{◌≡◌, ℕ, ◌+◌, ◌<◌, ◌≤◌, List, length, Some, slice_get}
use Rattle.rail_model.specs.Layout.{Layout, AreLinked}
use Rattle.rail_model.specs.Table.{Mission, Table, last_of, point}

-- At least one point, places up to 127, each point one of the layout, and a link from each to the next.
pub record IsMissionOf (L : Layout) (m : Mission) : Type 0 where
  pub some_point : 1 ≤ length m.points
  pub few_places : last_of m ≤ 127
  pub points : (k q : ℕ) → slice_get m.points k ≡ Some q → q < length L.points
  pub linked : (k p q : ℕ) → slice_get m.points k ≡ Some p → slice_get m.points (k + 1) ≡ Some q → AreLinked L p q

-- Each is a mission of the layout.
abbrev pub AreMissionsOf : Layout → List Mission → Type 0
AreMissionsOf L missions = (i : ℕ) (m : Mission) → slice_get missions i ≡ Some m → IsMissionOf L m

-- Each point of the table is one of the layout.
abbrev pub IsOn : Layout → Table → Type 0
IsOn L T = (i k q : ℕ) → point T i k ≡ Some q → q < length L.points
