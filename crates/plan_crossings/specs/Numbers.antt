-- Whether crossings are of points and ways that there are.
use Rattle.std.specs.Prelude.{ℕ, List, length, Bool, ◌&&◌, nat_lt}
use Rattle.std.specs.List.{list_all}
use Rattle.plan_crossings.specs.Crossings.{Crossing}

-- whether all these numbers are below one
abbrev pub are_below : ℕ → List ℕ → Bool
are_below n numbers = list_all (λ k. nat_lt k n) numbers

-- whether a crossing's ways have only points below a number, and whether its groups have only such ways
abbrev pub has_points_below : ℕ → Crossing → Bool
has_points_below n c = list_all (are_below n) c.ways

abbrev pub has_groups_below : ℕ → Crossing → Bool
has_groups_below n c = list_all (are_below n) c.parallel

-- whether a crossing is one of so many points: its ways have only them, and its groups only its ways
abbrev pub is_of : ℕ → Crossing → Bool
is_of points c = has_points_below points c && has_groups_below (length c.ways) c
