-- A table of a document, or the first thing that is wrong with it.
use Rattle.std.specs.Prelude.{ℕ, ◌&&◌, Bool, false, List, [], ◌∷◌, length, map, not, ◌==◌, nat_lt, nat_le, replicate, slice_index, slice_index_or, if◌then◌else◌, Option, unwrap_or, Result, Ok, Err}
use Rattle.std.specs.Bool.{then_some}
use Rattle.rail_model.specs.Layout.{Layout}
use Rattle.rail_model.specs.Table.{Table, last, last_of, trains}
use Rattle.rail_model.specs.Turns.{first_of, first_below, unless, in_turn}
use Rattle.mission_table.specs.Ways.{missions_from}
use Rattle.section_marks.specs.declared.marks.Marks.{Marks}
use Rattle.section_marks.specs.declared.marks.Marks.TheVariants.{One, Four}
use Rattle.section_marks.specs.Marking.{table_from}
use Rattle.section_marks.specs.Connecting.{connected}
use Rattle.document_shapes.specs.Raw.{TableMembers}
use Rattle.document_json.specs.declared.refused.DocRefused.{DocRefused}
use Rattle.document_json.specs.declared.refused.DocRefused.TheVariants as refused
use Rattle.document_json.specs.Doc.{DocTable}

-- the value, or what its refusal is in a document
abbrev pub refused_as : {A E : Type 0} → (E → DocRefused) → Result A E → Result A DocRefused
refused_as f (Ok a) = Ok a
refused_as f (Err e) = Err (f e)

-- what a train may weigh in a section, by the version
abbrev pub marks_of : ℕ → Marks
marks_of version = if version == 1 then One else Four

-- which trains leave; missing exits are all false
abbrev pub exits_or_none : ℕ → Option (List Bool) → List Bool
exits_or_none n exits = unwrap_or exits (replicate n false)

-- the travel times; missing times are all 1
abbrev pub times_or_one : Table → Option (List (List ℕ)) → List (List ℕ)
times_or_one T times = unwrap_or times (map (λ m. replicate (last_of m) 1) T.missions)

-- table 0 is due at once, each other table after at most 1,000,000 moves
abbrev pub after_refusal : ℕ → ℕ → Option DocRefused
after_refusal t after =
    then_some (if t == 0 then nat_lt 0 after else nat_lt 1000000 after) (refused.After t after)

-- another number of lists than trains
abbrev pub other_lists : ℕ → Table → List (List ℕ) → Option DocRefused
other_lists t T times = then_some (not (length times == trains T)) (refused.TimesLength t (trains T) (length times))

-- the train hasn't one time per step
abbrev pub bad_length : ℕ → Table → List (List ℕ) → ℕ → Option DocRefused
bad_length t T times i =
    then_some (not (length (slice_index_or times i []) == last T i))
    (refused.TimesLength t i (length (slice_index_or times i [])))

-- a time that isn't 1 to 1,000
abbrev pub bad_time : ℕ → ℕ → ℕ → ℕ → Option DocRefused
bad_time t i k time = then_some (not (nat_le 1 time && nat_le time 1000)) (refused.TimesValue t i k time)

-- the first bad time of a train
abbrev pub bad_times : ℕ → ℕ → List ℕ → Option DocRefused
bad_times t i steps = first_below (length steps) (λ k. bad_time t i k (slice_index steps k))

-- what is wrong with the travel times: all lengths before all values
abbrev pub times_refusal : ℕ → Table → List (List ℕ) → Option DocRefused
times_refusal t T times =
    first_of (
    other_lists t T times
    ∷ first_below (trains T) (bad_length t T times)
    ∷ first_below (trains T) (λ i. bad_times t i (slice_index_or times i []))
    ∷ [])

-- missions, sections and connections of a table; missing sections and connections are none
abbrev pub table_of : ℕ → Layout → ℕ → ℕ → TableMembers → Result Table DocRefused
table_of version L n t m =
    in_turn (refused_as (refused.Missions t) (missions_from L n m.missions (exits_or_none n m.exits))) (λ missions.
    in_turn (refused_as (refused.Marks t) (table_from (marks_of version) missions (unwrap_or m.sections []))) (λ marked.
    refused_as (refused.Marks t) (connected marked (unwrap_or m.connections []))))

-- table t of a document for n trains; a table is due after 0 moves unless it says otherwise, and its certificate is not looked at
abbrev pub doc_table_of : ℕ → Layout → ℕ → ℕ → TableMembers → Result DocTable DocRefused
doc_table_of version L n t m =
    in_turn (unless (after_refusal t (unwrap_or m.after 0)) (unwrap_or m.after 0)) (λ after.
    in_turn (table_of version L n t m) (λ T.
    in_turn (unless (times_refusal t T (times_or_one T m.times)) (times_or_one T m.times)) (λ times.
    Ok (record { table = T; after = after; times = times; nodes = unwrap_or m.certificate [] }))))
