-- The words of the rows before an answer, and of events.
use Rattle.std.specs.Prelude.{ℕ, List, [], ◌∷◌, ◌++◌, codes, decimal, flat_map, Option, Some, None}
use Rattle.rail_model.specs.Names.{Names}
use Rattle.live_yard.specs.declared.told.Told.{Told}
use Rattle.live_lines.specs.declared.told.Spot.{Spot}
use Rattle.live_lines.specs.Answers.{grant_words}
use Rattle.live_lines.specs.Lines.{line_of}
use Rattle.live_lines.specs.Told.{spot_words, told_word, prospect_words, IsNamedSpot, IsNamedProspect}
use Rattle.live_lines.specs.declared.rows.Row.{Row}
use Rattle.live_lines.specs.declared.rows.Row.TheVariants as row
use Rattle.live_lines.specs.declared.events.Event.{Event}
use Rattle.live_lines.specs.declared.events.Event.TheVariants.{Granted, Due, Done}

-- the place that a train has reported, where trains report
abbrev pub there_words : Option ℕ → List ℕ
there_words None = []
there_words (Some k) = codes " there=" ++ decimal k

-- where a train is and what it is told
abbrev pub at_words : Names → Spot → Told → Option ℕ → List ℕ
at_words N spot told there = codes "at " ++ spot_words N spot ++ codes " " ++ told_word told ++ there_words there

-- a row before an answer
abbrev pub row_words : Names → Row → List ℕ
row_words N (row.Told prospect) = codes "| " ++ prospect_words N prospect
row_words N (row.At spot told there) = codes "| " ++ at_words N spot told there

-- The trains and points of a row have names.
abbrev pub IsNamedRow : Names → Row → Type 0
IsNamedRow N (row.Told prospect) = IsNamedProspect N prospect
IsNamedRow N (row.At spot told there) = IsNamedSpot N spot

-- an event
abbrev pub event_words : Names → Event → List ℕ
event_words N (Granted spot n) = codes "! granted" ++ grant_words N spot n
event_words N (Due t) = codes "! due " ++ decimal t
event_words N (Done n t) = codes "! done moves=" ++ decimal n ++ codes " tables=" ++ decimal t

-- The train and the point of an event have names.
abbrev pub IsNamedEvent : Names → Event → Type 0
IsNamedEvent N (Granted spot n) = IsNamedSpot N spot
IsNamedEvent N event = Unit {0}

-- what each verb takes, a row each
abbrev pub verb_rows : List (List ℕ)
verb_rows =
    codes "| ask TRAIN [PLACE]" ∷ codes "| want TRAIN [PLACE]" ∷ codes "| drop TRAIN" ∷ codes "| can TRAIN | *"
    ∷ codes "| why TRAIN" ∷ codes "| table [TABLE]" ∷ codes "| fits " ∷ codes "| state " ∷ codes "| since LINE"
    ∷ codes "| ping " ∷ codes "| hello " ∷ codes "| at TRAIN PLACE" ∷ codes "| help " ∷ codes "| quit " ∷ []

-- the verbs, and how many they are
abbrev pub help_text : List ℕ → List ℕ
help_text tag = flat_map (line_of tag) verb_rows ++ line_of tag (codes "help requests=14")
