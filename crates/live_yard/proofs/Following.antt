-- Reports stay behind the trains, and the state one of a legal run.
use Rattle.std.proofs.Common.{◌≡◌, ◌≢◌, ℕ, ◌+◌, ◌^◌, ◌<◌, ◌≤◌, List, length, max, Bool, true, false, refl, sym, ap}
use Rattle.std.proofs.Common.{subst, ◌∙◌, arith, inl, inr}
use Rattle.std.proofs.lemmas.Bool.{cases_eq}
use Rattle.std.proofs.lemmas.List.{length-set, get_or-set_same, get_or-set_other}
use Rattle.std.specs.Prelude.{slice_set, if◌then◌else◌}
use Rattle.rail_model.specs.declared.types.Tried.{Tried}
use Rattle.rail_model.specs.declared.types.Tried.TheVariants.{Exchanged, Differs, Over, Early, NoMore}
use Rattle.rail_model.specs.Move.{advance}
use Rattle.rail_model.specs.State.{Legal}
use Rattle.rail_model.specs.Table.{Table, IsTable, trains, place}
use Rattle.rail_model.specs.Yard.{Yard, in_force}
use Rattle.rail_model.proofs.Moves.{place_moved, place_other}
use Rattle.table_exchange.specs.Steps.{after_tried}
use Rattle.table_exchange.specs.Tables.{Stands}
use Rattle.plain_yard.specs.Keeps.{Keeps, PlainRun}
use Rattle.plain_yard.specs.Lines.{most_lines}
use Rattle.plain_yard.proofs.Keeping.{keeps_stands}
use Rattle.live_yard.specs.Telling.{Reports, Tells}
use Rattle.live_yard.specs.Reported.{Reported, IsReported, MayGoOn, after_told, granted, place_of, positions_of}
use Rattle.live_yard.specs.Reported.{reported, stepped, table_of, tried_on}
use Rattle.live_yard.specs.declared.told.Told.{Told}
use Rattle.live_yard.specs.declared.told.Told.TheVariants.{May, Arrived, Occupied, Full, Waits, Away, Leaving, Clearing}

pub same_run : (a b : PlainRun) → a.tables ≡ b.tables → a.yard ≡ b.yard → a.lines ≡ b.lines → a.room ≡ b.room → a ≡ b
same_run a b tables yard lines room = λ i. record { tables = tables i; yard = yard i; lines = lines i; room = room i }

-- the table in force has a train for each report
pub stands_of : (v : Reported) → IsReported v → Stands v.run.tables v.run.yard
stands_of v is = keeps_stands v.run.tables v.run.yard v.run.lines is.keeps

pub trains_are : (v : Reported) → IsReported v → length v.there ≡ trains (table_of v)
trains_are v is = is.behind.one_each ∙ (stands_of v is).legal.one_each

-- trains that are where they were granted
pub reports_same : (p r : List ℕ) → r ≡ p → Reports p r
reports_same p r same =
    record {
      one_each = ap (λ (q : List ℕ). length q) same;
      behind = λ i. omega
          (arith, ap (λ (q : List ℕ). place q i) same);
    }

-- a train has moved
reports_moved : (p r : List ℕ) (i : ℕ) → i < length p → Reports p r → Reports (advance p i) r
reports_moved p r i within before = record {
  one_each = before.one_each ∙ sym (length-set p i (place p i + 1));
  behind = λ j. elim (cases_eq j i) [
    | inl same ↦ subst (λ (k : ℕ). place r k ≤ place (advance p i) k) (sym same)
        (omega (arith, before.behind i, place_moved p i within))
    | inr other ↦ omega (arith, before.behind j, place_other p i j other)
  ];
}

-- a train has reported a place that it was granted
reports_reported : (p r : List ℕ) (i k : ℕ) → i < length r → k ≤ place p i → Reports p r
    → Reports p (slice_set r i (max (place r i) k))
reports_reported p r i k within granted before = record {
  one_each = length-set r i (max (place r i) k) ∙ before.one_each;
  behind = λ j. elim (cases_eq j i) [
    | inl same ↦
        let there : place (slice_set r i (max (place r i) k)) i ≡ max (place r i) k =
        get_or-set_same r i (max (place r i) k) 0 within in
        subst (λ (l : ℕ). place (slice_set r i (max (place r i) k)) l ≤ place p l) (sym same)
        (omega (arith, before.behind i))
    | inr other ↦
        let there : place (slice_set r i (max (place r i) k)) j ≡ place r j =
        get_or-set_other r i j (max (place r i) k) 0 other in
        omega (arith, before.behind j)
  ];
}

moved_positions : (run next : PlainRun) (i : ℕ) → next ≡ stepped run i
    → next.yard.positions ≡ advance run.yard.positions i
moved_positions run next i is = ap (λ (r : PlainRun). r.yard.positions) is

-- a train has moved, and reports
pub keeps_reporting : (v : Reported) (next : PlainRun) (i : ℕ) → IsReported v → i < length v.there → v.reports ≡ true
    → next ≡ stepped v.run i
    → Keeps next.tables next.yard next.lines → length next.lines ≤ most_lines
    → IsReported (record { run = next; there = v.there; reports = v.reports })
keeps_reporting v next i is within reports next_is keeps few = record {
  keeps = keeps;
  few = few;
  few_trains = is.few_trains;
  behind = subst (λ (p : List ℕ). Reports p v.there) (sym (moved_positions v.run next i next_is))
      (reports_moved (positions_of v) v.there i (omega (arith, within, is.behind.one_each)) is.behind);
  all_there = λ none. absurd (let e : true ≡ false = sym reports ∙ none in cc);
}

-- a train has moved, and is there
pub keeps_there : (v : Reported) (next : PlainRun) (i : ℕ) → IsReported v → v.reports ≡ false → next ≡ stepped v.run i
    → Keeps next.tables next.yard next.lines → length next.lines ≤ most_lines
    → IsReported (record { run = next; there = advance v.there i; reports = v.reports })
keeps_there v next i is none next_is keeps few =
    let there : advance v.there i ≡ next.yard.positions = ap (λ (p : List ℕ). advance p i) (is.all_there none)
    ∙ sym (moved_positions v.run next i next_is) in
    record {
      keeps = keeps;
      few = few;
      few_trains = omega (arith, length-set v.there i (place v.there i + 1), is.few_trains);
      behind = reports_same next.yard.positions (advance v.there i) there;
      all_there = λ same. there;
    }

-- a train has reported
pub keeps_reported : (v : Reported) (i k : ℕ) → IsReported v → i < length v.there → v.reports ≡ true → k ≤ place_of v i
    → IsReported (reported v i k)
keeps_reported v i k is within reports granted = record {
  keeps = is.keeps;
  few = is.few;
  few_trains = omega (arith, length-set v.there i (max (place v.there i) k), is.few_trains);
  behind = reports_reported (positions_of v) v.there i k within granted is.behind;
  all_there = λ none. absurd (let e : true ≡ false = sym reports ∙ none in cc);
}

-- no train moves where a table is tried
pub tried_positions : (y : Yard) (tried : Tried) → (after_tried y tried).positions ≡ y.positions
tried_positions y Exchanged = refl
tried_positions y (Differs i k) = refl
tried_positions y (Over s n) = refl
tried_positions y (Early m) = refl
tried_positions y NoMore = refl

pub keeps_tried : (v : Reported) (next : PlainRun) (tried : Tried) → IsReported v → next ≡ tried_on v.run tried
    → Keeps next.tables next.yard next.lines → length next.lines ≤ most_lines
    → IsReported (record { run = next; there = v.there; reports = v.reports })
keeps_tried v next tried is next_is keeps few =
    let same : positions_of v ≡ next.yard.positions = sym (tried_positions v.run.yard tried)
    ∙ sym (ap (λ (r : PlainRun). r.yard.positions) next_is) in
    record {
      keeps = keeps;
      few = few;
      few_trains = is.few_trains;
      behind = subst (λ (p : List ℕ). Reports p v.there) same is.behind;
      all_there = λ none. is.all_there none ∙ same;
    }

-- a train that is not told that it may go on changes nothing
pub after_held : (v : Reported) (i : ℕ) (told : Told) → told ≢ May → after_told v i told ≡ v
after_held v i May held = absurd (held refl)
after_held v i Arrived held = refl
after_held v i (Occupied by) held = refl
after_held v i (Full s n) held = refl
after_held v i (Waits c) held = refl
after_held v i Away held = refl
after_held v i (Leaving by) held = refl
after_held v i (Clearing s n) held = refl

-- a grant keeps how many trains report
pub granted_size : (v : Reported) (i : ℕ) → length (granted v i).there ≡ length v.there
granted_size v i = by_reports v.reports
  where
    by_reports : (reports : Bool) → length (if reports then v.there else advance v.there i) ≡ length v.there
    by_reports true = refl
    by_reports false = length-set v.there i (place v.there i + 1)

-- what a function looked at, in the words of the state
pub legal_at : (v : Reported) (T : Table) (p : List ℕ) → IsReported v → T ≡ table_of v → p ≡ positions_of v → Legal T p
legal_at v T p is table positions =
    subst (λ (q : List ℕ). Legal T q) (sym positions)
    (subst (λ (U : Table). Legal U (positions_of v)) (sym table) (stands_of v is).legal)

pub reports_at : (v : Reported) (p : List ℕ) → IsReported v → p ≡ positions_of v → Reports p v.there
reports_at v p is positions = subst (λ (q : List ℕ). Reports q v.there) (sym positions) is.behind

pub train_at : (v : Reported) (T : Table) (i : ℕ) → IsReported v → T ≡ table_of v → i < length v.there → i < trains T
train_at v T i is table within =
    subst (λ (U : Table). i < trains U) (sym table) (omega (arith, trains_are v is, within))

pub tells_at : (v : Reported) (T : Table) (p : List ℕ) (i : ℕ) (told : Told) → T ≡ table_of v → p ≡ positions_of v
    → Tells T p v.there i told
    → Tells (table_of v) (positions_of v) v.there i told
tells_at v T p i told table positions tells =
    subst (λ (U : Table). Tells U (positions_of v) v.there i told) table
    (subst (λ (q : List ℕ). Tells T q v.there i told) positions tells)

-- a train was granted its next place
pub keeps_granted : (v : Reported) (next : PlainRun) (there : List ℕ) (i : ℕ) → IsReported v → i < length v.there
    → next ≡ stepped v.run i
    → there ≡ (if v.reports then v.there else advance v.there i) → Keeps next.tables next.yard next.lines
    → length next.lines ≤ most_lines
    → IsReported (record { run = next; there = there; reports = v.reports })
keeps_granted v next there i is within next_is there_is keeps few =
    subst (λ (r : List ℕ). IsReported (record { run = next; there = r; reports = v.reports })) (sym there_is)
    (by_reports v.reports refl)
  where
    by_reports : (b : Bool) → v.reports ≡ b
        → IsReported
        (record { run = next; there = (if v.reports then v.there else advance v.there i); reports = v.reports })
    by_reports true same =
        subst (λ (b : Bool). IsReported
        (record { run = next; there = (if b then v.there else advance v.there i); reports = v.reports })) (sym same)
        (keeps_reporting v next i is within same next_is keeps few)
    by_reports false same =
        subst (λ (b : Bool). IsReported
        (record { run = next; there = (if b then v.there else advance v.there i); reports = v.reports })) (sym same)
        (keeps_there v next i is same next_is keeps few)

pub granted_is : (v : Reported) (next : PlainRun) (there : List ℕ) (i : ℕ) → next ≡ stepped v.run i
    → there ≡ (if v.reports then v.there else advance v.there i)
    → record { run = next; there = there; reports = v.reports } ≡ granted v i
granted_is v next there i next_is there_is = λ j. record { run = next_is j; there = there_is j; reports = v.reports }

-- a report has room for one more place
pub has_room : (v : Reported) (next : PlainRun) (i : ℕ) → IsReported v → MayGoOn v i → next ≡ stepped v.run i
    → IsTable (in_force next.tables next.yard)
    → place v.there i < 2 ^ 31
has_room v next i is may next_is table =
    let formed : IsTable (table_of v) =
    subst IsTable (ap (λ (run : PlainRun). in_force run.tables run.yard) next_is) table in
    omega (
      arith,
      is.behind.behind i,
      may.moves.before.in_range i may.moves.train,
      (formed.missions i may.moves.train).few_places,
    )
