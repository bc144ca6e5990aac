-- The points at which trains have shares of a section, and the words on them.
use Rattle.std.specs.Prelude.{◌==◌, ◌++◌, ◌∷◌, ◌+◌, ℕ, zero, suc, pos, int_lt, List, [], length, min, nat_le, slice_index, Option, Some, None, codes, if◌then◌else◌}
use Rattle.std.specs.List.{list_any}
use Rattle.rail_model.specs.Names.{Names, point_name}
use Rattle.rail_model.specs.Table.{Table, last, point, share}
use Rattle.state_sentences.specs.Explanation.{joined_below}

-- the point of train i at place k, if the train has a share of section s there
abbrev pub held_at : Table → ℕ → ℕ → ℕ → Option ℕ
held_at T s i k = if int_lt (pos 0) (share T i s k) then point T i k else None

-- the points, and behind them one more, unless it is among them
abbrev pub with_point : List ℕ → Option ℕ → List ℕ
with_point points None = points
with_point points (Some q) = if list_any (λ known. known == q) points then points else points ++ (q ∷ [])

-- the points, and behind them each other point at which train i has a share of section s, at its places below k
abbrev pub held_before : Table → ℕ → ℕ → List ℕ → ℕ → List ℕ
held_before T s i points zero = points
held_before T s i points (suc k) = with_point (held_before T s i points k) (held_at T s i k)

-- the points at which the first n trains have shares of section s: each once, in the order of trains and places
abbrev pub held_points : Table → ℕ → ℕ → List ℕ
held_points T s zero = []
held_points T s (suc i) = held_before T s i (held_points T s i) (last T i + 1)

-- point number k of a list, with what stands before it
abbrev pub listed_point : Names → List ℕ → ℕ → List ℕ
listed_point N points k = (if k == 0 then codes " (" else codes ", ") ++ point_name N (slice_index points k)

-- what closes a list of n points
abbrev pub end_words : ℕ → List ℕ
end_words n = if n == 0 then [] else if nat_le n 6 then codes ")" else codes " and others)"

-- up to six points in brackets, and whether there are others
abbrev pub points_words : Names → List ℕ → List ℕ
points_words N points = joined_below (listed_point N points) (min (length points) 6) ++ end_words (length points)
