-- Lists of names as contracts see them.
use Rattle.std.specs.Prelude.{ℕ, List, map, String, string_bytes, Vec}
use Rattle.std.specs.declared.alloc.Global.{Global}

abbrev pub names_seen : List (String Global) → List (List ℕ)
names_seen names = map string_bytes names

-- the names on the way of each train
abbrev pub ways_seen : List (Vec (String Global) Global) → List (List (List ℕ))
ways_seen lists = map (λ names. names_seen names.items) lists
