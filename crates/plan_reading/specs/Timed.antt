-- Whether times are those that a text says.
use Rattle.std.specs.Prelude.{ℕ, pos, List, map, Bool, String, Option}
use Rattle.std.specs.Cmp.Lexicographic.{pointwise}
use Rattle.std.specs.Ordering.{int_eq}
use Rattle.std.specs.declared.alloc.Global.{Global}
use Rattle.toml.specs.Data.{Data}
use Rattle.plan_making.specs.Timed.{times_said}

-- whether a train's times are those that are said of it, with its dwell
abbrev pub are_times : Option Data → Option Data → List (String Global) → Bool → List ℕ → Bool
are_times said dwell route exits times = pointwise int_eq (times_said said dwell route exits) (map pos times)
