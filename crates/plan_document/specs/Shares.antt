-- The shares that a train has of a section at the places of its route, and the changes that make them.
use Rattle.std.specs.Prelude.{ℕ, zero, suc, ℤ, pos, ◌-ℤ◌, List, length, map, Bool, bytes_eq, string_bytes, String, slice_index_or}
use Rattle.std.specs.List.{list_any}
use Rattle.std.specs.declared.alloc.Global.{Global}
use Rattle.rail_model.specs.Checks.{below}

-- whether a name is one of these
abbrev pub is_among : List (String Global) → List ℕ → Bool
is_among names name = list_any (λ known. bytes_eq name (string_bytes known)) names

-- the share at a place; nothing after the last
abbrev pub share_at : List ℕ → ℕ → ℕ
share_at shares place = slice_index_or shares place 0

-- the share at the place before; nothing before the first
abbrev pub share_before : List ℕ → ℕ → ℕ
share_before shares zero = 0
share_before shares (suc place) = share_at shares place

-- by how much the share rises at a place
abbrev pub change_at : List ℕ → ℕ → ℤ
change_at shares place = pos (share_at shares place) -ℤ pos (share_before shares place)

-- the changes that make these shares, one for each place
abbrev pub changes : List ℕ → List ℤ
changes shares = map (change_at shares) (below (length shares))
