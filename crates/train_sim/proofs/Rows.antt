-- Worked rows: the lines and ticks of simulations.
use Rattle.std.specs.Prelude.{◌≡◌, ℕ, List, [], ◌∷◌, true, false, pos, negsuc, Some, None, refl}
use Rattle.rail_model.specs.declared.types.Line.{Line}
use Rattle.rail_model.specs.declared.types.Line.TheVariants.{Move as MoveLine, Table as TableLine, KeptDiffers}
use Rattle.rail_model.specs.Table.{Table, trains}
use Rattle.rail_model.specs.Yard.{Offer, opening, in_force}
use Rattle.train_sim.specs.Steps.{not_before}
use Rattle.train_sim.specs.Timed.{starting, timed_lines, last_tick_or}
use Rattle.train_sim.proofs.Played.{played}

-- the timed lines of a run of at most n asks from a start on
abbrev timed : ℕ → List Offer → List (List (List ℕ)) → List ℕ → List (ℕ × Line)
timed n tables times start =
    timed_lines tables (opening start) (played n tables times (starting (opening start) (trains (in_force tables (opening start)))))

-- the passing loop, each step of 3 ticks
abbrev passing-table : Table
passing-table = record {
  missions = (record { points = 0 ∷ 1 ∷ 2 ∷ []; exits = false }) ∷ (record { points = 2 ∷ 3 ∷ 0 ∷ []; exits = false }) ∷ [];
  sections = [];
  connections = [];
}

abbrev passing-offers : List Offer
passing-offers = (record { table = passing-table; after = 0 }) ∷ []

abbrev passing-times : List (List (List ℕ))
passing-times = ((3 ∷ 3 ∷ []) ∷ (3 ∷ 3 ∷ []) ∷ []) ∷ []

passing-lines : timed 40 passing-offers passing-times (0 ∷ 0 ∷ []) ≡ (0, MoveLine 0 0 (Some 1)) ∷ (0, MoveLine 1 2 (Some 3)) ∷ (3, MoveLine 0 1 (Some 2)) ∷ (3, MoveLine 1 3 (Some 0)) ∷ []
passing-lines = refl

passing-last : last_tick_or 0 (timed 40 passing-offers passing-times (0 ∷ 0 ∷ [])) ≡ 3
passing-last = refl

-- the corridor with one section
abbrev corridor-table : Table
corridor-table = record {
  missions = (record { points = 0 ∷ 1 ∷ 2 ∷ 3 ∷ []; exits = false }) ∷ (record { points = 4 ∷ 2 ∷ 1 ∷ 5 ∷ []; exits = false }) ∷ [];
  sections = (record { limit = 1; changes = (pos 0 ∷ pos 1 ∷ pos 0 ∷ negsuc 0 ∷ []) ∷ (pos 0 ∷ pos 1 ∷ pos 0 ∷ negsuc 0 ∷ []) ∷ [] }) ∷ [];
  connections = [];
}

abbrev corridor-offers : List Offer
corridor-offers = (record { table = corridor-table; after = 0 }) ∷ []

abbrev corridor-times : List (List (List ℕ))
corridor-times = ((1 ∷ 1 ∷ 1 ∷ []) ∷ (1 ∷ 1 ∷ 1 ∷ []) ∷ []) ∷ []

corridor-lines : timed 40 corridor-offers corridor-times (0 ∷ 0 ∷ []) ≡ (0, MoveLine 0 0 (Some 1)) ∷ (1, MoveLine 0 1 (Some 2)) ∷ (2, MoveLine 0 2 (Some 3)) ∷ (2, MoveLine 1 4 (Some 2)) ∷ (3, MoveLine 1 2 (Some 1)) ∷ (4, MoveLine 1 1 (Some 5)) ∷ []
corridor-lines = refl

corridor-last : last_tick_or 0 (timed 40 corridor-offers corridor-times (0 ∷ 0 ∷ [])) ≡ 4
corridor-last = refl

-- an arrived train goes on under a second table
abbrev onward-table_0 : Table
onward-table_0 = record {
  missions = (record { points = 0 ∷ 1 ∷ 2 ∷ []; exits = false }) ∷ [];
  sections = [];
  connections = [];
}

abbrev onward-table_1 : Table
onward-table_1 = record {
  missions = (record { points = 0 ∷ 1 ∷ 2 ∷ 3 ∷ []; exits = false }) ∷ [];
  sections = [];
  connections = [];
}

abbrev onward-offers : List Offer
onward-offers = (record { table = onward-table_0; after = 0 }) ∷ (record { table = onward-table_1; after = 99 }) ∷ []

abbrev onward-times : List (List (List ℕ))
onward-times = ((1 ∷ 1 ∷ []) ∷ []) ∷ ((1 ∷ 1 ∷ 5 ∷ []) ∷ []) ∷ []

onward-lines : timed 40 onward-offers onward-times (0 ∷ []) ≡ (0, MoveLine 0 0 (Some 1)) ∷ (1, MoveLine 0 1 (Some 2)) ∷ (1, TableLine 1) ∷ (2, MoveLine 0 2 (Some 3)) ∷ []
onward-lines = refl

onward-last : last_tick_or 0 (timed 40 onward-offers onward-times (0 ∷ [])) ≡ 2
onward-last = refl

-- a table that is kept out
abbrev kept-table_0 : Table
kept-table_0 = record {
  missions = (record { points = 0 ∷ 1 ∷ 0 ∷ 2 ∷ []; exits = false }) ∷ [];
  sections = [];
  connections = [];
}

abbrev kept-table_1 : Table
kept-table_1 = record {
  missions = (record { points = 0 ∷ 3 ∷ 0 ∷ 2 ∷ []; exits = false }) ∷ [];
  sections = [];
  connections = [];
}

abbrev kept-offers : List Offer
kept-offers = (record { table = kept-table_0; after = 0 }) ∷ (record { table = kept-table_1; after = 2 }) ∷ []

abbrev kept-times : List (List (List ℕ))
kept-times = ((1 ∷ 1 ∷ 1 ∷ []) ∷ []) ∷ ((1 ∷ 1 ∷ 1 ∷ []) ∷ []) ∷ []

kept-lines : timed 40 kept-offers kept-times (0 ∷ []) ≡ (0, MoveLine 0 0 (Some 1)) ∷ (1, MoveLine 0 1 (Some 0)) ∷ (1, KeptDiffers 1 0 1) ∷ (2, MoveLine 0 0 (Some 2)) ∷ []
kept-lines = refl

kept-last : last_tick_or 0 (timed 40 kept-offers kept-times (0 ∷ [])) ≡ 2
kept-last = refl

-- two trains that leave the layout
abbrev leaving-table : Table
leaving-table = record {
  missions = (record { points = 0 ∷ 1 ∷ []; exits = true }) ∷ (record { points = 2 ∷ 1 ∷ []; exits = true }) ∷ [];
  sections = [];
  connections = [];
}

abbrev leaving-offers : List Offer
leaving-offers = (record { table = leaving-table; after = 0 }) ∷ []

abbrev leaving-times : List (List (List ℕ))
leaving-times = ((2 ∷ 1 ∷ []) ∷ (4 ∷ 1 ∷ []) ∷ []) ∷ []

leaving-lines : timed 40 leaving-offers leaving-times (0 ∷ 0 ∷ []) ≡ (0, MoveLine 0 0 (Some 1)) ∷ (2, MoveLine 0 1 None) ∷ (2, MoveLine 1 2 (Some 1)) ∷ (6, MoveLine 1 1 None) ∷ []
leaving-lines = refl

leaving-last : last_tick_or 0 (timed 40 leaving-offers leaving-times (0 ∷ 0 ∷ [])) ≡ 6
leaving-last = refl

-- train 1 asks at tick 5 and moves: train 0 has asked at that tick, train 2 has not
put_off-rows : (not_before 1 5 0 ≡ 6) × (not_before 1 5 1 ≡ 5) × (not_before 1 5 2 ≡ 5)
put_off-rows = (refl, refl, refl)
