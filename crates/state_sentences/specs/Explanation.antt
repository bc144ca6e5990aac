-- The words on the trains of a legal state, and on a circle of them.
use Rattle.std.specs.Prelude.{◌+◌, ◌++◌, ◌∷◌, ℕ, zero, suc, pos, int_lt, List, [], codes, decimal, flat_map, Option, Some, None, slice_get, if◌then◌else◌, String}
use Rattle.std.specs.declared.alloc.Global.{Global}
use Rattle.std.specs.Fmt.{signed_decimal}
use Rattle.rail_model.specs.declared.types.Ask.{Ask}
use Rattle.rail_model.specs.declared.types.Ask.TheVariants.{Yes, Arrived as AtEnd, Occupied, Full, Waits}
use Rattle.rail_model.specs.Names.{Names, train_name}
use Rattle.rail_model.specs.Table.{Table, Connection, trains, last, limit, change, share, place}
use Rattle.rail_model.specs.Checks.{ask}
use Rattle.state_sentences.specs.Named.{name_at}
use Rattle.state_sentences.specs.Circle.{waits_for}
use Rattle.state_sentences.specs.Sections.{section_words}

-- f 0 ++ f 1 ++ .. ++ f (n - 1)
abbrev pub joined_below : (ℕ → List ℕ) → ℕ → List ℕ
joined_below f zero = []
joined_below f (suc n) = joined_below f n ++ f n

-- a point, or the way out of the layout
abbrev pub wish_words : Option (List ℕ) → List ℕ
wish_words (Some point) = point
wish_words None = codes "to leave the layout"

-- at a point, or out of the layout
abbrev pub at_words : Option (List ℕ) → List ℕ
at_words (Some point) = codes " is at " ++ point
at_words None = codes " is out of the layout"

-- where a train is
abbrev pub where_words : Names → Table → List ℕ → ℕ → List ℕ
where_words N T p i =
    train_name N i ++ at_words (name_at N T i (place p i))
    ++ codes ", place " ++ decimal (place p i) ++ codes " of " ++ decimal (last T i)

-- that a train wants this next
abbrev pub wants_words : List ℕ → List ℕ
wants_words wish = codes ", and wants " ++ wish ++ codes ": "

-- what a train wants next, at a place
abbrev pub next_words : Names → Table → ℕ → ℕ → List ℕ
next_words N T i k = wants_words (wish_words (name_at N T i k))

-- what a train has of a section, if it has anything of it
abbrev pub holder_words : Names → Table → List ℕ → ℕ → ℕ → List ℕ
holder_words N T p s i =
    if int_lt (pos 0) (share T i s (place p i))
    then codes "; " ++ train_name N i ++ codes " has " ++ signed_decimal (share T i s (place p i))
    else []

-- a section without room
abbrev pub room_words : List (String Global) → ℕ → List ℕ
room_words S s = section_words S s ++ codes " has no room for "

-- how much of a section is taken
abbrev pub taken_words : ℕ → ℕ → List ℕ
taken_words taken limit = codes " more, " ++ decimal taken ++ codes " of " ++ decimal limit ++ codes " are taken"

-- a section without room for a train's move: the change, how much of it is taken, and what each train has of it
abbrev pub full_words : Names → List (String Global) → Table → List ℕ → ℕ → ℕ → ℕ → List ℕ
full_words N S T p i s n =
    room_words S s ++ (signed_decimal (change T i s (place p i + 1)) ++ (taken_words n (limit T s) ++ joined_below (holder_words N T p s) (trains T)))

-- which train a connection waits for, and until which place
abbrev pub until_words : ℕ → List ℕ → ℕ → List ℕ
until_words c other reached =
    codes "connection " ++ decimal c ++ codes " holds it until " ++ other ++ codes " has come to place " ++ decimal reached ++ codes ", "

-- a connection, by its number
abbrev pub wait_words : Names → Table → ℕ → Option Connection → List ℕ
wait_words N T c None = []
wait_words N T c (Some k) = until_words c (train_name N k.other) k.reached ++ wish_words (name_at N T k.other k.reached)

-- what a train is told that has not arrived
abbrev pub reason_words : Names → List (String Global) → Table → List ℕ → ℕ → Ask → List ℕ
reason_words N S T p i AtEnd = []
reason_words N S T p i Yes = codes "it may"
reason_words N S T p i (Occupied by) = train_name N by ++ codes " is there"
reason_words N S T p i (Full s n) = full_words N S T p i s n
reason_words N S T p i (Waits c) = wait_words N T c (slice_get T.connections c)

-- what a train wants, and what it is told
abbrev pub told_words : Names → List (String Global) → Table → List ℕ → ℕ → Ask → List ℕ
told_words N S T p i AtEnd = codes ", and has arrived"
told_words N S T p i Yes = next_words N T i (place p i + 1) ++ reason_words N S T p i Yes
told_words N S T p i (Occupied by) = next_words N T i (place p i + 1) ++ reason_words N S T p i (Occupied by)
told_words N S T p i (Full s n) = next_words N T i (place p i + 1) ++ reason_words N S T p i (Full s n)
told_words N S T p i (Waits c) = next_words N T i (place p i + 1) ++ reason_words N S T p i (Waits c)

-- the sentence on a train
abbrev pub train_words : Names → List (String Global) → Table → List ℕ → ℕ → List ℕ
train_words N S T p i = where_words N T p i ++ told_words N S T p i (ask T p i) ++ codes "\n"

-- the sentences on all trains
abbrev pub trains_words : Names → List (String Global) → Table → List ℕ → List ℕ
trains_words N S T p = joined_below (train_words N S T p) (trains T)

-- a train, and the one that it waits for
abbrev pub pair_words : Names → ℕ → Option ℕ → List ℕ
pair_words N i (Some by) = codes " " ++ train_name N i ++ codes " waits for " ++ train_name N by ++ codes "."
pair_words N i None = []

-- the trains of a circle, each with the one that it waits for; nothing if there is no circle
abbrev pub circle_words : Names → Table → List ℕ → List ℕ → List ℕ
circle_words N T p [] = []
circle_words N T p (i ∷ later) =
    codes "A circle:" ++ flat_map (λ k. pair_words N k (waits_for T p k)) (i ∷ later) ++ codes "\n"
