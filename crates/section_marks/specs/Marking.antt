-- The table that missions and sections make, or the first thing that is wrong with the sections.
use Rattle.std.specs.Prelude.{ℕ, suc, ◌+◌, Bool, false, ℤ, pos, neg_ℤ, List, [], ◌∷◌, length, not, ◌&&◌, ◌==◌, nat_lt, int_le, slice_index_or, Option, Result}
use Rattle.std.specs.Bool.{then_some}
use Rattle.rail_model.specs.Sums.{total_below}
use Rattle.rail_model.specs.Table.{Table, Mission, Section, last_of}
use Rattle.rail_model.specs.Turns.{first_of, first_below, unless}
use Rattle.section_marks.specs.declared.marks.Marks.{Marks}
use Rattle.section_marks.specs.declared.marks.Marks.TheVariants.{One, Four}
use Rattle.section_marks.specs.declared.refused.MarkRefused.{MarkRefused}
use Rattle.section_marks.specs.declared.refused.MarkRefused.TheVariants.{TooMany, Limit, Count, Step, Share}

-- the greatest share of a train
abbrev pub most_share : Marks → ℕ
most_share One = 1
most_share Four = 4

-- the greatest limit
abbrev pub most_limit : Marks → ℕ
most_limit One = 32
most_limit Four = 128

-- whether a number lies between two others
abbrev pub is_between : ℤ → ℤ → ℤ → Bool
is_between low high z = int_le low z && int_le z high

-- how many places a train has
abbrev pub places : List Mission → ℕ → ℕ
places missions i = last_of (slice_index_or missions i (record { points = []; exits = false })) + 1

-- the changes of a train, none where there is no list
abbrev pub changes_of : List (List ℤ) → ℕ → List ℤ
changes_of changes i = slice_index_or changes i []

-- the change at a place, and the sum of the changes up to there
abbrev pub change_at : List ℤ → ℕ → ℤ
change_at changes k = slice_index_or changes k (pos 0)

abbrev pub share_at : List ℤ → ℕ → ℤ
share_at changes k = total_below (change_at changes) (suc k)

-- too many sections
abbrev pub too_many : ℕ → Option MarkRefused
too_many count = then_some (nat_lt 64 count) (TooMany count)

-- the limit is too great
abbrev pub bad_limit : Marks → ℕ → ℕ → Option MarkRefused
bad_limit marks s limit = then_some (nat_lt (most_limit marks) limit) (Limit s limit)

-- the train hasn't one change per place
abbrev pub bad_count : ℕ → ℕ → ℕ → ℕ → Option MarkRefused
bad_count s i places count = then_some (not (count == places)) (Count s i)

-- there is a list too many
abbrev pub list_too_many : ℕ → ℕ → ℕ → Option MarkRefused
list_too_many s trains lists = then_some (nat_lt trains lists) (Count s trains)

-- the change is too great, up or down
abbrev pub bad_step : Marks → ℕ → ℕ → ℕ → ℤ → Option MarkRefused
bad_step marks s i k change =
    then_some (not (is_between (neg_ℤ (pos (most_share marks))) (pos (most_share marks)) change)) (Step s i k change)

-- the share is below 0 or too great
abbrev pub bad_share : Marks → ℕ → ℕ → ℕ → ℤ → Option MarkRefused
bad_share marks s i k share =
    then_some (not (is_between (pos 0) (pos (most_share marks)) share)) (Share s i k share)

-- what is wrong at a place
abbrev pub place_refusal : Marks → ℕ → ℕ → ℕ → ℤ → ℤ → Option MarkRefused
place_refusal marks s i k change share = first_of (bad_step marks s i k change ∷ bad_share marks s i k share ∷ [])

-- what is wrong with the changes of a train, place by place
abbrev pub train_refusal : Marks → ℕ → ℕ → ℕ → List ℤ → Option MarkRefused
train_refusal marks s i places changes =
    first_below places (λ k. place_refusal marks s i k (change_at changes k) (share_at changes k))

-- the first train that hasn't one change per place
abbrev pub length_refusal : List Mission → ℕ → List (List ℤ) → Option MarkRefused
length_refusal missions s changes =
    first_below (length missions) (λ i. bad_count s i (places missions i) (length (changes_of changes i)))

-- what is wrong with the numbers of changes
abbrev pub count_refusal : List Mission → ℕ → List (List ℤ) → Option MarkRefused
count_refusal missions s changes =
    first_of (length_refusal missions s changes ∷ list_too_many s (length missions) (length changes) ∷ [])

-- what is wrong with the shares, train by train
abbrev pub share_refusal : Marks → List Mission → ℕ → List (List ℤ) → Option MarkRefused
share_refusal marks missions s changes =
    first_below (length missions) (λ i. train_refusal marks s i (places missions i) (changes_of changes i))

-- what is wrong with a section: its limit, the numbers of changes, the changes
abbrev pub section_refusal : Marks → List Mission → ℕ → Section → Option MarkRefused
section_refusal marks missions s section =
    first_of (
    bad_limit marks s section.limit
    ∷ count_refusal missions s section.changes
    ∷ share_refusal marks missions s section.changes
    ∷ [])

-- the section with a number
abbrev pub section_at : List Section → ℕ → Section
section_at sections s = slice_index_or sections s (record { limit = 0; changes = [] })

-- what is wrong with the sections, one after another
abbrev pub each_refusal : Marks → List Mission → List Section → Option MarkRefused
each_refusal marks missions sections =
    first_below (length sections) (λ s. section_refusal marks missions s (section_at sections s))

-- what is wrong with the sections, in the order in which it is reported
abbrev pub sections_refusal : Marks → List Mission → List Section → Option MarkRefused
sections_refusal marks missions sections = first_of (too_many (length sections) ∷ each_refusal marks missions sections ∷ [])

-- the table, or the first refusal
unfoldable pub table_from : Marks → List Mission → List Section → Result Table MarkRefused
table_from marks missions sections =
    unless (sections_refusal marks missions sections) (record { missions = missions; sections = sections; connections = [] })
