-- What values and lists of values stand for.
use Rattle.std.specs.Prelude.{ℕ, Bool, is_some, List, Option}
use Rattle.serde_json.specs.Data.{Data}
use Rattle.serde_json.specs.Find.{as_object}
use Rattle.serde_json.specs.View.{items_view}
use Rattle.serde_json.specs.declared.value.Value.{Value}
use Rattle.document_shapes.specs.Shape.{whole, each}

-- the whole numbers that values stand for
abbrev pub each_whole : List Value → Option (List ℕ)
each_whole vs = each whole (items_view vs)

-- whether a value is an object
abbrev pub is_object : Data → Bool
is_object d = is_some (as_object d)
