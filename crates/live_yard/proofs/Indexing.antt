-- The index of a run: what a grant and a table do to it.
use Rattle.std.proofs.Common.{◌≡◌, ◌≢◌, ℕ, ◌+◌, ◌*◌, ◌<◌, List, [], ◌∷◌, ◌++◌, length, true, false, refl, sym, ap, subst}
use Rattle.std.proofs.Common.{◌∙◌, arith, length-append, eqb, inl, inr}
use Rattle.std.specs.Prelude.{slice_set}
use Rattle.std.proofs.lemmas.Bool.{ne_eqb}
use Rattle.std.proofs.lemmas.Bool.Decides.{eqb_tells}
use Rattle.std.proofs.lemmas.List.{append-nil, length-set}
use Rattle.rail_model.specs.declared.types.Line.{Line}
use Rattle.rail_model.specs.declared.types.Tried.{Tried}
use Rattle.rail_model.specs.declared.types.Tried.TheVariants.{Exchanged, Differs, Over, Early, NoMore}
use Rattle.rail_model.specs.Lines.{move_line}
use Rattle.rail_model.specs.Move.{advance}
use Rattle.rail_model.specs.Table.{IsTable, place}
use Rattle.rail_model.specs.Yard.{Offer, Yard, in_force}
use Rattle.rail_model.proofs.Moves.{place_moved}
use Rattle.plain_yard.specs.Keeps.{PlainRun}
use Rattle.plain_yard.specs.Lines.{tried_lines}
use Rattle.live_yard.specs.PassedPlaces.{ArePassed}
use Rattle.live_yard.specs.Reported.{Reported, IsReported, MayGoOn, place_of, positions_of, stepped, table_of, tried_on}
use Rattle.live_yard.specs.declared.granted_lines.Passed.{Passed}
use Rattle.live_yard.specs.declared.granted_lines.Passed.TheVariants.{Granted}
use Rattle.live_yard.proofs.Following.{tried_positions}
use Rattle.live_yard.proofs.Passing.{are_passed_moved, are_passed_same}

same_train : (i : ℕ) → eqb i i ≡ true
same_train i = elim (eqb_tells i i) [ inl same ↦ same.0 | inr other ↦ absurd (other.1 refl) ]

other_trains : (i j : ℕ) → j ≢ i → eqb i j ≡ false
other_trains i j other = ne_eqb i j (λ same. other (sym same))

-- a train that may move has moved to one of its first 128 places
few_moved : (v : Reported) (next : PlainRun) (i : ℕ) → MayGoOn v i → next ≡ stepped v.run i
    → IsTable (in_force next.tables next.yard)
    → i < length (positions_of v)
    → place_of v i + 1 < 128
few_moved v next i may next_is table within =
    let formed : IsTable (table_of v) =
    subst IsTable (ap (λ (run : PlainRun). in_force run.tables run.yard) next_is) table in
    omega (
      arith,
      may.moves.after.in_range i may.moves.train,
      place_moved (positions_of v) i within,
      (formed.missions i may.moves.train).few_places,
    )

-- where it is then
moved_there : (v : Reported) (next : PlainRun) (i : ℕ) → next ≡ stepped v.run i → i < length (positions_of v)
    → place next.yard.positions i ≡ place_of v i + 1
moved_there v next i next_is within =
    ap (λ (run : PlainRun). place run.yard.positions i) next_is ∙ place_moved (positions_of v) i within

pub next_within : (v : Reported) (next : PlainRun) (i : ℕ) → IsReported v → i < length v.there → next ≡ stepped v.run i
    → i < length next.yard.positions
next_within v next i is within next_is =
    omega (
      arith,
      ap (λ (run : PlainRun). length run.yard.positions) next_is,
      length-set (positions_of v) i (place_of v i + 1),
      is.behind.one_each,
    )

pub next_room : (v : Reported) (next : PlainRun) (i : ℕ) (ways : List Passed) → IsReported v
    → ArePassed v.run.lines (positions_of v) ways
    → i < length v.there → MayGoOn v i → next ≡ stepped v.run i → IsTable (in_force next.tables next.yard)
    → i * 128 + place next.yard.positions i < length ways
next_room v next i ways is are within may next_is table =
    let here : i < length (positions_of v) = omega (arith, within, is.behind.one_each) in
    omega (arith, here, moved_there v next i next_is here, few_moved v next i may next_is table here, are.size)

-- a train was granted its next place
pub indexed_grant : (v : Reported) (next : PlainRun) (i : ℕ) (ways longer : List Passed) → IsReported v
    → ArePassed v.run.lines (positions_of v) ways
    → i < length v.there → MayGoOn v i → next ≡ stepped v.run i → IsTable (in_force next.tables next.yard)
    → longer ≡ slice_set ways (i * 128 + place next.yard.positions i) (Granted (length next.lines))
    → ArePassed next.lines next.yard.positions longer
indexed_grant v next i ways longer is are within may next_is table longer_is =
    let p = positions_of v in
    let l = move_line v.run.tables v.run.yard i in
    let here : i < length p = omega (arith, within, is.behind.one_each) in
    let last : length next.lines ≡ length v.run.lines + 1 = ap (λ (run : PlainRun). length run.lines) next_is
    ∙ length-append v.run.lines (l ∷ []) in
    subst (λ (run : PlainRun). ArePassed run.lines run.yard.positions longer) (sym next_is)
    (subst (ArePassed (v.run.lines ++ l ∷ []) (advance p i))
    (sym (longer_is
    ∙ ap (λ (k : ℕ). slice_set ways (i * 128 + k) (Granted (length next.lines))) (moved_there v next i next_is here)
    ∙ ap (λ (n : ℕ). slice_set ways (i * 128 + (place p i + 1)) (Granted n)) last))
    (are_passed_moved v.run.lines p ways i l are here (few_moved v next i may next_is table here) (same_train i)
    (λ j. other_trains i j)))

-- the lines of a table are no moves
no_move : (tables : List Offer) (y : Yard) (tried : Tried) (lines : List Line) (p : List ℕ) (ways : List Passed)
    → ArePassed lines p ways
    → ArePassed (lines ++ tried_lines tables y tried) p ways
no_move tables y Exchanged lines p ways are = are_passed_same lines p ways _ are (λ j. refl)
no_move tables y (Differs i k) lines p ways are = are_passed_same lines p ways _ are (λ j. refl)
no_move tables y (Over s n) lines p ways are = are_passed_same lines p ways _ are (λ j. refl)
no_move tables y (Early m) lines p ways are =
    subst (λ (ls : List Line). ArePassed ls p ways) (sym (append-nil lines)) are
no_move tables y NoMore lines p ways are =
    subst (λ (ls : List Line). ArePassed ls p ways) (sym (append-nil lines)) are

-- a table was tried
pub indexed_table : (run next : PlainRun) (tried : Tried) (ways : List Passed)
    → ArePassed run.lines run.yard.positions ways → next ≡ tried_on run tried
    → ArePassed next.lines next.yard.positions ways
indexed_table run next tried ways are next_is =
    subst (λ (r : PlainRun). ArePassed r.lines r.yard.positions ways) (sym next_is)
    (subst (λ (p : List ℕ). ArePassed (run.lines ++ tried_lines run.tables run.yard tried) p ways)
    (sym (tried_positions run.yard tried)) (no_move run.tables run.yard tried run.lines run.yard.positions ways are))
