-- Names with numbers, or the first name that comes twice.
use Rattle.std.specs.Prelude.{ℕ, List, option_map, Result}
use Rattle.rail_model.specs.Naming.{first_double}
use Rattle.rail_model.specs.Turns.{unless}
use Rattle.track_layout.specs.declared.numbers.NotNumbered.{NotNumbered}
use Rattle.track_layout.specs.declared.numbers.NotNumbered.TheVariants.{Double}

-- the names, each at its number
abbrev pub numbered : List (List ℕ) → Result (List (List ℕ)) NotNumbered
numbered names = unless (option_map (λ pair. Double pair.0 pair.1) (first_double names)) names
