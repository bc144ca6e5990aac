-- What is answered of the circular waits: all of them, or that there are more than 64.
use Rattle.std.specs.Prelude.{◌≡◌, ◌⊎◌, ◌<◌, ◌≤◌, ℕ, List, ◌++◌, length, nat_lt, Option, Result, MatchResult}
use Rattle.std.specs.Bool.{then_some}
use Rattle.rail_model.specs.Table.{Mission}
use Rattle.rail_model.specs.Turns.{unless}
use Rattle.ring_sections.specs.declared.refused.Rings.{Rings}
use Rattle.ring_sections.specs.declared.refused.Rings.TheVariants.{Many, Memory}
use Rattle.ring_sections.specs.Ring.{Pair, rings}

-- more than 64; they are not counted any further
abbrev pub too_many : ℕ → Option Rings
too_many count = then_some (nat_lt 64 count) (Many 65)

-- all circular waits, unless there are too many
abbrev pub all_rings : List Mission → ℕ → Result (List (List Pair)) Rings
all_rings M most = unless (too_many (length (rings M most))) (rings M most)

-- The rings have been added to those before, at most 64 in all; or there were more, or memory was wanting.
abbrev pub AddsRings : {U : Type 0} → List (List Pair) → List (List Pair) → List (List Pair) → Result U Rings → Type 0
AddsRings before after added result =
    MatchResult result
    (λ _. (after ≡ before ++ added) × (length after ≤ 64))
    (λ e. (e ≡ Memory) ⊎ ((e ≡ Many 65) × (64 < length (before ++ added))))
