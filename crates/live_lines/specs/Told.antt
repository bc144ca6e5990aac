-- The words on what a train is told.
use Rattle.std.specs.Prelude.{ℕ, ◌<◌, List, [], ◌∷◌, ◌++◌, All, codes, decimal, flat_map, length}
use Rattle.rail_model.specs.Names.{Names, train_name, target_name}
use Rattle.move_journal.specs.Printable.{IsNamedTarget}
use Rattle.live_yard.specs.declared.told.Told.{Told}
use Rattle.live_yard.specs.declared.told.Told.TheVariants as told
use Rattle.live_lines.specs.declared.told.Spot.{Spot}
use Rattle.live_lines.specs.declared.told.Room.{Room}
use Rattle.live_lines.specs.declared.told.Cause.{Cause}
use Rattle.live_lines.specs.declared.told.Cause.TheVariants.{Occupied, Full, Connection, Away, Leaving, Clearing}
use Rattle.live_lines.specs.declared.told.Prospect.{Prospect}
use Rattle.live_lines.specs.declared.told.Prospect.TheVariants.{May, Waits, Arrived}

-- the name of a train, after a comma
abbrev pub other_words : Names → ℕ → List ℕ
other_words N i = codes "," ++ train_name N i

-- the names of trains, with commas between them; - where there are none
abbrev pub trains_words : Names → List ℕ → List ℕ
trains_words N [] = codes "-"
trains_words N (i ∷ others) = train_name N i ++ flat_map (other_words N) others

-- a train, its place and its point there
abbrev pub spot_words : Names → Spot → List ℕ
spot_words N s = train_name N s.train ++ codes " " ++ decimal s.place ++ codes " " ++ target_name N s.point

-- a section without room
abbrev pub room_words : Names → Room → List ℕ
room_words N r =
    codes " section=" ++ decimal r.section ++ codes " count=" ++ decimal r.count ++ codes " more=" ++ decimal r.more
    ++ codes " limit=" ++ decimal r.limit ++ codes " by=" ++ trains_words N r.by.now

-- why a train has to wait
abbrev pub cause_words : Names → Cause → List ℕ
cause_words N (Occupied by) = codes "occupied by=" ++ train_name N by
cause_words N (Full room) = codes "full" ++ room_words N room
cause_words N (Connection c by k) =
    codes "connection=" ++ decimal c ++ codes " by=" ++ train_name N by ++ codes " reached=" ++ decimal k
cause_words N (Away k) = codes "away=" ++ decimal k
cause_words N (Leaving by) = codes "leaving by=" ++ train_name N by
cause_words N (Clearing room) = codes "clearing" ++ room_words N room

-- what a train is told
abbrev pub prospect_words : Names → Prospect → List ℕ
prospect_words N (May next) = codes "may " ++ spot_words N next
prospect_words N (Waits next cause) = codes "wait " ++ spot_words N next ++ codes " " ++ cause_words N cause
prospect_words N (Arrived i k) = codes "arrived " ++ train_name N i ++ codes " " ++ decimal k

-- what a train is told, in one word
abbrev pub told_word : Told → List ℕ
told_word told.May = codes "may"
told_word told.Arrived = codes "arrived"
told_word (told.Occupied by) = codes "occupied"
told_word (told.Full s n) = codes "full"
told_word (told.Waits c) = codes "waits"
told_word told.Away = codes "away"
told_word (told.Leaving by) = codes "leaving"
told_word (told.Clearing s n) = codes "clearing"

-- The trains have names.
abbrev pub AreNamed : Names → List ℕ → Type 0
AreNamed N by = All (λ i. i < length N.trains) by

-- The train and the point have names.
abbrev pub IsNamedSpot : Names → Spot → Type 0
IsNamedSpot N s = (s.train < length N.trains) × IsNamedTarget N s.point

-- The trains of a cause have names.
abbrev pub IsNamedCause : Names → Cause → Type 0
IsNamedCause N (Occupied by) = by < length N.trains
IsNamedCause N (Full room) = AreNamed N room.by.now
IsNamedCause N (Connection c by k) = by < length N.trains
IsNamedCause N (Away k) = Unit {0}
IsNamedCause N (Leaving by) = by < length N.trains
IsNamedCause N (Clearing room) = AreNamed N room.by.now

-- The trains and the point of what a train is told have names.
abbrev pub IsNamedProspect : Names → Prospect → Type 0
IsNamedProspect N (May next) = IsNamedSpot N next
IsNamedProspect N (Waits next cause) = IsNamedSpot N next × IsNamedCause N cause
IsNamedProspect N (Arrived i k) = i < length N.trains
