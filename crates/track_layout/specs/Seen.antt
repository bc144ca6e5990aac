-- Points and links as contracts see them.
use Rattle.std.specs.Prelude.{ℕ, List, map, String, string_bytes}
use Rattle.std.specs.declared.alloc.Global.{Global}

-- a point's name and zone
abbrev pub point_seen : String Global × ℕ → List ℕ × ℕ
point_seen p = (string_bytes p.0, p.1)

-- the names of a link's points
abbrev pub link_seen : String Global × String Global → List ℕ × List ℕ
link_seen l = (string_bytes l.0, string_bytes l.1)

abbrev pub points_seen : List (String Global × ℕ) → List (List ℕ × ℕ)
points_seen points = map point_seen points

abbrev pub links_seen : List (String Global × String Global) → List (List ℕ × List ℕ)
links_seen links = map link_seen links
