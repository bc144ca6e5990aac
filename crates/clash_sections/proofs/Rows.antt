-- Worked yards: what is known of their stands, what a section lets in, and tracks.
use Rattle.std.proofs.Common.{◌≡◌, List, [], ◌∷◌, true, false, Some, None, refl, arith}
use Rattle.clash_sections.specs.declared.meetings.Meeting.{Meeting}
use Rattle.clash_sections.specs.declared.meetings.Meeting.TheVariants.{Free, Clash, Never}
use Rattle.clash_sections.specs.Stands.{meeting, Meet, IsApart}
use Rattle.clash_sections.specs.Sections.{StandSection, IsWithin, Forbids}
use Rattle.clash_sections.specs.Tracks.{count_on}

-- Scissors: two tracks, 0 and 1, and the ways from each to the other, 2 and 3. Its own points keep a way to one train.
abbrev scissors : List (List Meeting)
scissors =
    (Never ∷ [])
    ∷ (Free ∷ Never ∷ [])
    ∷ (Clash ∷ Clash ∷ Never ∷ [])
    ∷ (Clash ∷ Clash ∷ Clash ∷ Never ∷ [])
    ∷ []

both_tracks : meeting scissors 0 1 ≡ Free
both_tracks = refl

-- whichever is named first
track_and_way : meeting scissors 1 2 ≡ Clash
track_and_way = refl

way_and_track : meeting scissors 2 1 ≡ Clash
way_and_track = refl

unknown_stands : meeting scissors 2 7 ≡ Free
unknown_stands = refl

-- its section: a way takes all of it
abbrev crossing : StandSection
crossing = record { limit = 2; shares = 1 ∷ 1 ∷ 2 ∷ 2 ∷ [] }

-- the tracks of the section: on each of them one of the two tracks, and both ways
crossing-counts : ((count_on ((true ∷ false ∷ true ∷ true ∷ []) ∷ (false ∷ true ∷ true ∷ true ∷ []) ∷ []) 0) ≡ 1)
    × ((count_on ((true ∷ false ∷ true ∷ true ∷ []) ∷ (false ∷ true ∷ true ∷ true ∷ []) ∷ []) 3) ≡ 2)
crossing-counts = (refl, refl)

-- a train on each track, and a third elsewhere
tracks-within : IsWithin (Some 0 ∷ None ∷ Some 1 ∷ []) crossing
tracks-within = omega arith

-- a train on a track and one on a way aren't let in
track-and-way-over : IsWithin (Some 0 ∷ None ∷ Some 2 ∷ []) crossing → ⊥
track-and-way-over h = omega arith

track-and-way-forbidden : Forbids 0 2 crossing
track-and-way-forbidden = omega arith

-- trains 0 and 2 are on them
track-and-way-meet : Meet (Some 0 ∷ None ∷ Some 2 ∷ []) 0 2
track-and-way-meet = record { one = 0; other = 2; differ = λ e. omega arith; one_stands = refl; other_stands = refl }

track-and-way-clash : IsApart scissors (Some 0 ∷ None ∷ Some 2 ∷ []) → ⊥
track-and-way-clash apart = apart 0 2 track-and-way-meet refl

-- two double tracks that cross, 0 and 1 over 2 and 3: a section for each of the first
abbrev first_over : StandSection
first_over = record { limit = 2; shares = 2 ∷ 0 ∷ 1 ∷ 1 ∷ [] }

-- both trains of the double track that it is crossed by are let in, and not with one on the first
crossed-within : IsWithin (Some 2 ∷ Some 3 ∷ []) first_over
crossed-within = omega arith

crossed-over : Forbids 0 3 first_over
crossed-over = omega arith

-- a single way that clashes with itself
abbrev single_way : List (List Meeting)
single_way = (Clash ∷ []) ∷ []

one_train-within : IsWithin (Some 0 ∷ None ∷ []) (record { limit = 1; shares = 1 ∷ [] })
one_train-within = omega arith

two_trains-over : IsWithin (Some 0 ∷ Some 0 ∷ []) (record { limit = 1; shares = 1 ∷ [] }) → ⊥
two_trains-over h = omega arith

two_trains-clash : IsApart single_way (Some 0 ∷ Some 0 ∷ []) → ⊥
two_trains-clash apart = apart 0 0 (record { one = 0; other = 1; differ = λ e. omega arith; one_stands = refl; other_stands = refl }) refl
