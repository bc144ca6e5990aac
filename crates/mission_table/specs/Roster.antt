-- The trains that names describe, or the first thing that is wrong with them.
use Rattle.std.specs.Prelude.{ℕ, ◌≤◌, List, [], ◌∷◌, length, not, nat_lt, Option, option_map, position, Result}
use Rattle.std.specs.Bool.{then_some}
use Rattle.rail_model.specs.Names.{AreNames}
use Rattle.rail_model.specs.Naming.{is_name, first_double}
use Rattle.rail_model.specs.Turns.{first_of, unless}
use Rattle.mission_table.specs.declared.refused.TrainRefused.{TrainRefused}
use Rattle.mission_table.specs.declared.refused.TrainRefused.TheVariants.{TooMany, Name, DoubleName}

-- Names of at most 32 trains, no two of them the same.
pub record AreTrains (names : List (List ℕ)) : Type 0 where
  pub few : length names ≤ 32
  pub named : AreNames names

-- more than 32 trains
abbrev pub too_many : ℕ → Option TrainRefused
too_many count = then_some (nat_lt 32 count) (TooMany count)

-- the first text that is no name
abbrev pub bad_name : List (List ℕ) → Option TrainRefused
bad_name names = option_map Name (position (λ name. not (is_name name)) names)

-- the first name that comes twice
abbrev pub double_name : List (List ℕ) → Option TrainRefused
double_name names = option_map (λ pair. DoubleName pair.0 pair.1) (first_double names)

-- what is wrong with the names, in the order in which it is reported
abbrev pub trains_refusal : List (List ℕ) → Option TrainRefused
trains_refusal names = first_of (too_many (length names) ∷ bad_name names ∷ double_name names ∷ [])

-- the trains, or the first refusal
unfoldable pub trains_from : List (List ℕ) → Result (List (List ℕ)) TrainRefused
trains_from names = unless (trains_refusal names) names
