-- What keeps a train within a group: the first of its trains, of the sections, or of the connections that does.
use Rattle.std.specs.Prelude.{ℕ, ◌<◌, ◌&&◌, List, length, Option, find, option_map}
use Rattle.std.specs.Option.{option_or}
use Rattle.rail_model.specs.Table.{Table, Connection as Held, trains}
use Rattle.rail_model.specs.Checks.{below, blocks, is_held_by}
use Rattle.state_core.specs.declared.keepers.Keeper.{Keeper}
use Rattle.state_core.specs.declared.keepers.Keeper.TheVariants.{Train, Section, Connection}
use Rattle.state_core.specs.Core.{has, shuts}

-- the first train of the group at the next point of train i
abbrev pub blocker : Table → List ℕ → List ℕ → ℕ → Option ℕ
blocker T p group i = find (λ j. has group j && blocks T p i j) (below (trains T))

-- the first section that has no room for train i beside the group's shares
abbrev pub full_section : Table → List ℕ → List ℕ → ℕ → Option ℕ
full_section T p group i = find (shuts T p group i) (below (length T.sections))

-- the first connection that holds train i until one of the group is further
abbrev pub holding : Table → List ℕ → List ℕ → ℕ → Option Held
holding T p group i = find (λ k. is_held_by p i k && has group k.other) T.connections

-- what keeps train i within the group: a train if there is one, or else a section, or else a connection
abbrev pub keeper : Table → List ℕ → List ℕ → ℕ → Option Keeper
keeper T p group i =
    option_or (option_map Train (blocker T p group i))
    (option_or (option_map Section (full_section T p group i))
    (option_map (λ k. Connection k.other k.reached) (holding T p group i)))

-- The table has the keeper's train, or its section.
abbrev pub IsKeeperOf : Table → Keeper → Type 0
IsKeeperOf T (Train j) = j < trains T
IsKeeperOf T (Section s) = s < length T.sections
IsKeeperOf T (Connection other reached) = other < trains T
