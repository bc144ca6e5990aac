-- Which sections keep nothing out, and which places and ends of trains no legal state allows.
use Rattle.std.specs.Prelude.{◌≡◌, ◌<◌, ℕ, ℤ, pos, ◌≤ℤ◌, ◌<ℤ◌, Option, Some}
use Rattle.rail_model.specs.Sums.{total_below, greatest}
use Rattle.rail_model.specs.Table.{Table, trains, last, limit, point, share}

-- the greatest share of a section that a train has at any of its places
abbrev pub most : Table → ℕ → ℕ → ℤ
most T s i = greatest (share T i s) 0 (last T i)

-- Even if all trains had their greatest shares at once, the section would be within its limit.
abbrev pub NeverBinds : Table → ℕ → Type 0
NeverBinds T s = total_below (most T s) (trains T) ≤ℤ pos (limit T s)

-- No train has more than nothing of the section, wherever it is.
abbrev pub IsUnused : Table → ℕ → Type 0
IsUnused T s = (i : ℕ) → i < trains T → most T s i ≤ℤ pos 0

-- The train alone has more of the section at some place than the limit.
abbrev pub OverfillsAlone : Table → ℕ → ℕ → Type 0
OverfillsAlone T s i = pos (limit T s) <ℤ most T s i

-- what all trains have of the section together at their last places
abbrev pub end_count : Table → ℕ → ℤ
end_count T s = total_below (λ i. share T i s (last T i)) (trains T)

-- At their last places all trains together have more of the section than its limit.
abbrev pub IsOverfullAtEnd : Table → ℕ → Type 0
IsOverfullAtEnd T s = pos (limit T s) <ℤ end_count T s

-- the point at which a train ends, if it doesn't leave the layout
abbrev pub end : Table → ℕ → Option ℕ
end T i = point T i (last T i)

-- The two trains have one last point, and neither leaves the layout after it.
abbrev pub EndTogether : Table → ℕ → ℕ → Type 0
EndTogether T i j = (q : ℕ) × (end T i ≡ Some q) × (end T j ≡ Some q)
