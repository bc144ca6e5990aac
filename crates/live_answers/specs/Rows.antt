-- Rows and answers on what trains are told.
use Rattle.std.specs.Prelude.{◌≡◌, ℕ, zero, suc, List, [], ◌++◌, length, slice_index, filter, count_by, codes, Bool}
use Rattle.std.specs.Prelude.{true, false, not, ◌||◌, Option, Some, None, if◌then◌else◌}
use Rattle.rail_model.specs.Names.{Names, train_name}
use Rattle.rail_model.specs.Table.{trains, place}
use Rattle.live_yard.specs.declared.told.Told.{Told}
use Rattle.live_yard.specs.declared.told.Told.TheVariants.{May, Arrived, Away}
use Rattle.live_answers.specs.Seen.{Seen, AreTold, told_at}
use Rattle.live_answers.specs.Waiting.{AreAwaited}
use Rattle.live_lines.specs.Answers.{train_words, why_words}
use Rattle.live_lines.specs.Lines.{line_of}
use Rattle.live_lines.specs.Rows.{row_words}
use Rattle.live_lines.specs.Session.{session_words}
use Rattle.live_lines.specs.declared.rows.Row.TheVariants as row
use Rattle.live_lines.specs.declared.session.Counts.{Counts}
use Rattle.live_lines.specs.declared.session.SessionAnswer.TheVariants.{Could, State}
use Rattle.live_lines.specs.declared.told.Prospect.{Prospect}
use Rattle.live_lines.specs.declared.trains.TrainAnswer.TheVariants as answer
use Rattle.live_answers.specs.Prospects.{IsProspect, spot_at}

-- The text grew by one of which the fact holds.
abbrev pub Says : (List ℕ → Type 0) → List ℕ → List ℕ → Type 0
Says P before after = (added : List ℕ) × P added × (after ≡ before ++ added)

-- Texts one after the other: of 0, of 1, .. of n - 1.
abbrev pub AreRows : (ℕ → List ℕ → Type 0) → ℕ → List ℕ → Type 0
AreRows R zero text = text ≡ []
AreRows R (suc n) text = (before : List ℕ) × (last : List ℕ) × AreRows R n before × R n last × (text ≡ before ++ last)

-- The answer to train i that was told this.
abbrev pub IsToldAnswer : Names → Seen → List ℕ → ℕ → Told → List ℕ → Type 0
IsToldAnswer N v tag i told text =
    (what : Prospect) × IsProspect v i told what × (text ≡ line_of tag (train_words N (answer.Told what)))

-- A row on train i that is told this.
abbrev pub IsToldRow : Names → Seen → List ℕ → ℕ → Told → List ℕ → Type 0
IsToldRow N v tag i told text =
    (what : Prospect) × IsProspect v i told what × (text ≡ line_of tag (row_words N (row.Told what)))

-- what a train is told, in short
abbrev pub is_may : Told → Bool
is_may May = true
is_may told = false

abbrev pub is_arrived : Told → Bool
is_arrived Arrived = true
is_arrived told = false

abbrev pub is_away : Told → Bool
is_away Away = true
is_away told = false

-- whether a train hasn't reported, or whether it may go on
abbrev pub is_one_of : Bool → (Told → Bool)
is_one_of true = is_away
is_one_of false = is_may

abbrev pub waits : Told → Bool
waits told = not (is_may told || is_arrived told)

-- The answer to `can *`: a row for each train, and how many may go on, wait and have arrived.
abbrev pub TellsAll : Names → Seen → List ℕ → List ℕ → Type 0
TellsAll N v tag text =
    (tolds : List Told) × (rows : List ℕ) × AreTold v tolds
    × AreRows (λ i. IsToldRow N v tag i (told_at tolds i)) (trains v.table) rows
    × (text ≡ rows ++ line_of tag (session_words (Could (count_by is_may tolds) (count_by waits tolds)
    (count_by is_arrived tolds))))

-- the place that a train has reported, where trains report
abbrev pub there_of : Seen → Bool → ℕ → Option ℕ
there_of v reports i = if reports then Some (place v.reported i) else None

-- A row on where train i is, and what it is told.
abbrev pub IsAtRow : Names → Seen → List ℕ → Bool → List Told → ℕ → List ℕ → Type 0
IsAtRow N v tag reports tolds i text =
    text ≡ line_of tag (row_words N (row.At (spot_at v i (place v.positions i)) (told_at tolds i)
    (there_of v reports i)))

-- The answer to `state`: a row for each train, and the counts.
abbrev pub TellsState : Names → Seen → List ℕ → Bool → Counts → List ℕ → Type 0
TellsState N v tag reports counts text =
    (tolds : List Told) × (rows : List ℕ) × AreTold v tolds
    × AreRows (IsAtRow N v tag reports tolds) (trains v.table) rows
    × (text ≡ rows ++ line_of tag (session_words (State counts)))

-- whether a train is told this
abbrev pub of_told : (Told → Bool) → List Told → ℕ → Bool
of_told test tolds i = test (told_at tolds i)

-- the answer on train i and those that it waits for: how many they are, which may go on, and which haven't reported
abbrev pub why_line : Names → List ℕ → List Told → List ℕ → ℕ → List ℕ
why_line N tag tolds waiting i =
    line_of tag (codes "why " ++ train_name N i
    ++ why_words N (length waiting) (filter (of_told is_may tolds) waiting) (filter (of_told is_away tolds) waiting))

-- The answer to `why`: a row for the train and each that it waits for, and then the answer.
abbrev pub TellsWhy : Names → Seen → List ℕ → ℕ → List ℕ → Type 0
TellsWhy N v tag i text =
    (tolds : List Told) × (waiting : List ℕ) × (rows : List ℕ) × AreTold v tolds × AreAwaited v tolds i waiting
    × AreRows (λ k. IsToldRow N v tag (slice_index waiting k) (told_at tolds (slice_index waiting k))) (length waiting)
    rows
    × (text ≡ rows ++ why_line N tag tolds waiting i)
