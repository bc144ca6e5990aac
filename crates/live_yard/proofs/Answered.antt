-- The index of the lines that answered tables.
use Rattle.std.proofs.Common.{◌≡◌, ℕ, ◌+◌, ◌-◌, ◌<◌, List, [], ◌∷◌, ◌++◌, length, Some, refl, sym, subst}
use Rattle.std.proofs.Common.{◌∙◌, arith, inl, inr}
use Rattle.std.specs.Prelude.{slice_index, slice_set}
use Rattle.std.proofs.lemmas.Bool.{cases_eq}
use Rattle.std.proofs.lemmas.List.{append-nil, length-set, get_or-set_same, get_or-set_other}
use Rattle.rail_model.specs.declared.types.Line.{Line}
use Rattle.rail_model.specs.declared.types.Tried.{Tried}
use Rattle.rail_model.specs.declared.types.Tried.TheVariants.{Exchanged, Differs, Over, Early, NoMore}
use Rattle.rail_model.specs.Lines.{move_line}
use Rattle.rail_model.specs.Yard.{Offer, Yard}
use Rattle.table_exchange.specs.Steps.{after_tried}
use Rattle.plain_yard.specs.Keeps.{PlainRun}
use Rattle.plain_yard.specs.Lines.{tried_lines}
use Rattle.live_yard.specs.GrantedLines.{WasTried, answered}
use Rattle.live_yard.specs.Reported.{Reported, IsReported, stepped, tried_on}
use Rattle.live_yard.specs.TableLines.{AreAnswered}
use Rattle.live_yard.proofs.Following.{stands_of}
use Rattle.live_yard.proofs.Passing.{before-more, last_line}

-- one more table has its line
pub next_answered : (lines : List Line) (numbers : List ℕ) (table n : ℕ) → table < length numbers
    → WasTried lines table n
    → ((t : ℕ) → 0 < t → t < table → WasTried lines t (slice_index numbers t))
    → (t : ℕ) → 0 < t → t < table + 1 → WasTried lines t (slice_index (slice_set numbers table n) t)
next_answered lines numbers table n within now before t some below = elim (cases_eq t table) [
  | inl same ↦
      let there : slice_index (slice_set numbers table n) table ≡ n = get_or-set_same numbers table n 0 within in
      subst (λ (s : ℕ). WasTried lines s (slice_index (slice_set numbers table n) s)) (sym same)
      (subst (λ (m : ℕ). WasTried lines table m) (sym there) now)
  | inr other ↦
      let there : slice_index (slice_set numbers table n) t ≡ slice_index numbers t =
      get_or-set_other numbers table t n 0 other in
      subst (λ (m : ℕ). WasTried lines t m) (sym there) (before t some (omega (arith, below, other)))
]

-- with one more line
tried-more : (lines : List Line) (l : Line) (t n : ℕ) → WasTried lines t n → WasTried (lines ++ l ∷ []) t n
tried-more lines l t n was = (was.0, (was.1.0, before-more lines l was.1.0 (n - 1) was.1.1, was.1.2))

tried-last : (lines : List Line) (l : Line) (t : ℕ) → answered l ≡ Some t → WasTried (lines ++ l ∷ []) t (length lines + 1)
tried-last lines l t is = (omega arith, (l, last_line lines l, is))

-- the next table has its answer
with_answer : (lines : List Line) (l : Line) (tried : ℕ) (numbers : List ℕ) → tried < 16
    → AreAnswered lines tried numbers → answered l ≡ Some (tried + 1)
    → AreAnswered (lines ++ l ∷ []) (tried + 1) (slice_set numbers (tried + 1) (length lines + 1))
with_answer lines l tried numbers few are is = record {
  room = length-set numbers (tried + 1) (length lines + 1) ∙ are.room;
  each = λ t some upto.
      next_answered (lines ++ l ∷ []) numbers (tried + 1) (length lines + 1) (omega (arith, few, are.room))
      (tried-last lines l (tried + 1) is)
      (λ s more below. tried-more lines l s (slice_index numbers s) (are.each s more (omega arith))) t some (omega arith);
}

-- or none yet
without_answer : (lines : List Line) (tried n : ℕ) (numbers : List ℕ) → AreAnswered lines tried numbers
    → AreAnswered (lines ++ []) tried (slice_set numbers (tried + 1) n)
without_answer lines tried n numbers are = record {
  room = length-set numbers (tried + 1) n ∙ are.room;
  each = λ t some upto.
      let there : slice_index (slice_set numbers (tried + 1) n) t ≡ slice_index numbers t =
      get_or-set_other numbers (tried + 1) t n 0 (λ same. omega (arith, same, upto)) in
      subst (λ (ls : List Line). WasTried ls t (slice_index (slice_set numbers (tried + 1) n) t))
      (sym (append-nil lines)) (subst (λ (m : ℕ). WasTried lines t m) (sym there) (are.each t some upto));
}

answered_tried : (tables : List Offer) (y : Yard) (tried : Tried) (lines : List Line) (numbers : List ℕ)
    → y.tried < 16 → AreAnswered lines y.tried numbers
    → AreAnswered (lines ++ tried_lines tables y tried) (after_tried y tried).tried
    (slice_set numbers (y.tried + 1) (length lines + 1))
answered_tried tables y Exchanged lines numbers few are = with_answer lines _ y.tried numbers few are refl
answered_tried tables y (Differs i k) lines numbers few are = with_answer lines _ y.tried numbers few are refl
answered_tried tables y (Over s n) lines numbers few are = with_answer lines _ y.tried numbers few are refl
answered_tried tables y (Early m) lines numbers few are = without_answer lines y.tried (length lines + 1) numbers are
answered_tried tables y NoMore lines numbers few are = without_answer lines y.tried (length lines + 1) numbers are

-- there are few tables
pub tables_few : (v : Reported) → IsReported v → v.run.yard.tried < 16
tables_few v is = omega (arith, (stands_of v is).tried, is.keeps.are.few)

-- a table was tried
pub answered_table : (v : Reported) (next : PlainRun) (tried : Tried) (numbers after : List ℕ) → IsReported v
    → AreAnswered v.run.lines v.run.yard.tried numbers → next ≡ tried_on v.run tried
    → after ≡ slice_set numbers (v.run.yard.tried + 1) (length v.run.lines + 1)
    → AreAnswered next.lines next.yard.tried after
answered_table v next tried numbers after is are next_is after_is =
    let run = v.run in
    subst (λ (r : PlainRun). AreAnswered r.lines r.yard.tried after) (sym next_is)
    (subst (AreAnswered (run.lines ++ tried_lines run.tables run.yard tried) (after_tried run.yard tried).tried)
    (sym after_is) (answered_tried run.tables run.yard tried run.lines numbers (tables_few v is) are))

-- a train was granted its next place
pub answered_grant : (run next : PlainRun) (i : ℕ) (numbers : List ℕ) → AreAnswered run.lines run.yard.tried numbers
    → next ≡ stepped run i
    → AreAnswered next.lines next.yard.tried numbers
answered_grant run next i numbers are next_is =
    subst (λ (r : PlainRun). AreAnswered r.lines r.yard.tried numbers) (sym next_is) (record {
      room = are.room;
      each = λ t some upto.
          tried-more run.lines (move_line run.tables run.yard i) t (slice_index numbers t) (are.each t some upto);
    })
