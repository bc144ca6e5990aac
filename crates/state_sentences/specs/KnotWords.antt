-- The words on a knot: what each of its trains waits for within it.
use Rattle.std.specs.Prelude.{◌++◌, ◌&&◌, ◌||◌, not, ℕ, List, [], Bool, Option, Some, None, codes, decimal, if◌then◌else◌, String}
use Rattle.std.specs.declared.alloc.Global.{Global}
use Rattle.std.specs.List.{list_any}
use Rattle.rail_model.specs.Names.{Names, train_name}
use Rattle.rail_model.specs.Table.{Table, trains}
use Rattle.rail_model.specs.Checks.{below}
use Rattle.state_core.specs.Core.{has, is_unfinished}
use Rattle.state_core.specs.Keeper.{keeper}
use Rattle.state_core.specs.declared.keepers.Keeper.{Keeper}
use Rattle.state_core.specs.declared.keepers.Keeper.TheVariants.{Train, Section, Connection}
use Rattle.state_sentences.specs.Explanation.{joined_below, holder_words}
use Rattle.state_sentences.specs.Sections.{section_words}

-- whether one list has a train that the other lacks
abbrev pub has_more : Table → List ℕ → List ℕ → Bool
has_more T one other = list_any (λ i. has one i && not (has other i)) (below (trains T))

-- whether the knot has other trains than the circle
abbrev pub differ : Table → List ℕ → List ℕ → Bool
differ T circle knot = has_more T knot circle || has_more T circle knot

-- what a train of the knot has of a section, if it has anything of it
abbrev pub member_share_words : Names → Table → List ℕ → List ℕ → ℕ → ℕ → List ℕ
member_share_words N T p knot s i = if has knot i then holder_words N T p s i else []

-- a section, and what each train of the knot has of it
abbrev pub shut_words : Names → List (String Global) → Table → List ℕ → List ℕ → ℕ → List ℕ
shut_words N S T p knot s = section_words S s ++ joined_below (member_share_words N T p knot s) (trains T)

-- what a train of the knot waits for
abbrev pub keeper_words : Names → List (String Global) → Table → List ℕ → List ℕ → Option Keeper → List ℕ
keeper_words N S T p knot None = []
keeper_words N S T p knot (Some (Train by)) = train_name N by
keeper_words N S T p knot (Some (Section s)) = shut_words N S T p knot s
keeper_words N S T p knot (Some (Connection other reached)) =
    train_name N other ++ codes " to come to place " ++ decimal reached ++ codes ", by a connection"

-- that a train waits within the knot
abbrev pub kept_words : Names → List (String Global) → Table → List ℕ → List ℕ → ℕ → List ℕ
kept_words N S T p knot i = codes " " ++ train_name N i ++ codes " waits for " ++ keeper_words N S T p knot (keeper T p knot i) ++ codes "."

-- that a train has arrived
abbrev pub arrived_words : Names → ℕ → List ℕ
arrived_words N i = codes " " ++ train_name N i ++ codes " has arrived and stays."

-- the sentence on a train, if it is one of the knot
abbrev pub member_words : Names → List (String Global) → Table → List ℕ → List ℕ → ℕ → List ℕ
member_words N S T p knot i =
    if has knot i then (if is_unfinished T p i then kept_words N S T p knot i else arrived_words N i) else []

-- the knot: what each of its trains waits for
abbrev pub whole_knot_words : Names → List (String Global) → Table → List ℕ → List ℕ → List ℕ
whole_knot_words N S T p knot =
    codes "A knot:" ++ joined_below (member_words N S T p knot) (trains T) ++ codes " None of them can ever move.\n"

-- the knot, unless its trains are those of the circle
abbrev pub knot_words : Names → List (String Global) → Table → List ℕ → List ℕ → List ℕ → List ℕ
knot_words N S T p circle knot = if differ T circle knot then whole_knot_words N S T p knot else []

-- whether some train of the knot has arrived
abbrev pub has_arrived : Table → List ℕ → List ℕ → Bool
has_arrived T p knot = list_any (λ i. has knot i && not (is_unfinished T p i)) (below (trains T))
