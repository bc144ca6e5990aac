-- Which zones a text puts points into.
use Rattle.std.specs.Prelude.{ℕ, ◌-◌, List, find, ◌==◌, Bool, false, String, unwrap_or, Option, Some, None, option_and_then, decimal}
use Rattle.std.specs.List.{list_all, range_with_len}
use Rattle.std.specs.declared.alloc.Global.{Global}
use Rattle.toml.specs.Data.{Data, Items, get, as_array}
use Rattle.plan_reading.specs.Agreeing.{has_name}

-- whether there is a list, and it has the name of a point
abbrev pub lists : Option Items → String Global → Bool
lists None point = false
lists (Some items) point = has_name items point

-- the list of a zone, which stands at its number in decimal
abbrev pub list_of : Option Data → ℕ → Option Items
list_of zones zone = option_and_then as_array (option_and_then (get (decimal zone)) zones)

-- the first zone that passes a test, of those from this number up to 15
unfoldable pub first_zone : ℕ → (ℕ → Bool) → Option ℕ
first_zone from test = find test (range_with_len from (16 - from))

-- the zone of a point: the first from 1 to 15 whose list has it, or 0, if none has
abbrev pub zone_of : Option Data → String Global → ℕ
zone_of zones point = unwrap_or (first_zone 1 (λ zone. lists (list_of zones zone) point)) 0

-- whether each of these points has the zone that it is put into
abbrev pub are_zoned : Option Data → List (String Global × ℕ) → Bool
are_zoned zones points = list_all (λ p. p.1 == zone_of zones p.0) points
