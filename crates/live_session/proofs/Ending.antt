-- The last line is `end` exactly if all is done.
use Rattle.std.proofs.Common.{◌≡◌, ℕ, zero, suc, ◌+◌, ◌-◌, ◌<◌, ◌≤◌, List, Bool, true, false, length, refl, ap, subst}
use Rattle.std.proofs.Common.{◌∙◌, arith, inl, inr}
use Rattle.std.specs.Prelude.{◌==◌, ◌&&◌, nat_le, if◌then◌else◌}
use Rattle.std.proofs.lemmas.Bool.{cases_lt, eq-eqb, eqb-true, le-leb, leb-true}
use Rattle.rail_model.specs.declared.types.Line.{Line}
use Rattle.rail_model.specs.Journal.{IsDone}
use Rattle.rail_model.specs.State.{Arrived}
use Rattle.rail_model.specs.Table.{Table, last, place, trains}
use Rattle.rail_model.specs.Yard.{Offer, Yard}
use Rattle.live_lines.specs.Lines.{close_text}
use Rattle.live_answers.specs.Yards.{is_last, number_of}
use Rattle.live_session.specs.Answering.{is_whole, last_text}
use Rattle.live_session.specs.Journals.{IsLastLine}
use Rattle.live_session.specs.News.{exchanges}
use Rattle.live_session.specs.States.{SessionState, counts, lines, seen}

-- no more numbers are chosen than there are
number_by : (b : Bool) (n m : ℕ) → m ≤ n → m + (if b then 1 else 0) ≤ n + 1
number_by true n m le = omega arith
number_by false n m le = omega arith

number_few : (f : ℕ → Bool) (n : ℕ) → number_of f n ≤ n
number_few f zero = omega arith
number_few f (suc n) =
    let next : number_of f n + (if f n then 1 else 0) ≤ n + 1 = number_by (f n) n (number_of f n) (number_few f n) in
    omega (arith, next)

-- where all are chosen, each is
chosen_by : (b : Bool) (n m : ℕ) → m ≤ n → m + (if b then 1 else 0) ≡ n + 1 → (b ≡ true) × (m ≡ n)
chosen_by true n m le is = (refl, omega arith)
chosen_by false n m le is = absurd (omega arith)

all_chosen : (f : ℕ → Bool) (n : ℕ) → number_of f n ≡ n → (i : ℕ) → i < n → f i ≡ true
all_chosen f zero all i lt = absurd (omega arith)
all_chosen f (suc n) all i lt =
    let here = chosen_by (f n) n (number_of f n) (number_few f n) (let e : _ ≡ n + 1 = all ∙ (omega arith) in e) in
    elim (cases_lt i n) [
      | inl below ↦ all_chosen f n here.1 i below
      | inr not ↦ subst (λ k. f k ≡ true) (let e : n ≡ i = omega arith in e) here.0
    ]

-- and where each is, all are
each_chosen : (f : ℕ → Bool) (n : ℕ) → ((i : ℕ) → i < n → f i ≡ true) → number_of f n ≡ n
each_chosen f zero each = refl
each_chosen f (suc n) each =
    let here : number_of f n + (if f n then 1 else 0) ≡ number_of f n + 1 = ap (λ (b : Bool). number_of f n + (if b
    then 1 else 0)) (each n (omega arith)) in
    omega (arith, here, each_chosen f n (λ i lt. each i (omega arith)))

-- the test of a whole journal is that all is done
whole_by : (tables : List Offer) (y : Yard) (T : Table) (arrived closed : Bool)
    → (arrived ≡ true → Arrived T y.positions) → (Arrived T y.positions → arrived ≡ true)
    → (closed ≡ true → length tables ≤ y.tried + 1) → (length tables ≤ y.tried + 1 → closed ≡ true)
    → ((arrived && closed) ≡ true → Arrived T y.positions × (y.tried + 1 < length tables → ⊥))
    × (Arrived T y.positions × (y.tried + 1 < length tables → ⊥) → (arrived && closed) ≡ true)
whole_by tables y T true true to from shut free = (λ e. (to refl, λ more. absurd (omega (arith, shut refl))), λ e. refl)
whole_by tables y T true false to from shut free = (
  λ e. absurd (cc e),
  λ done. free (elim (cases_lt (y.tried + 1) (length tables)) [
    | inl more ↦ absurd (done.1 more)
    | inr none ↦ none
  ]),
)
whole_by tables y T false closed to from shut free = (λ e. absurd (cc e), λ done. absurd (let e = from done.0 in cc))

last_by : (tables : List Offer) (y : Yard) (ls : List Line) (whole : Bool) → (whole ≡ true → IsDone tables y)
    → (IsDone tables y → whole ≡ true)
    → IsLastLine tables y ls (close_text whole y.moves (exchanges ls))
last_by tables y ls true to from = inl (to refl, refl)
last_by tables y ls false to from = inr (λ done. let e = from done in cc, refl)

pub last_line : (s : SessionState)
    → IsLastLine s.dispatch.yard.run.tables s.dispatch.yard.run.yard (lines s) (last_text s)
last_line s =
    let run = s.dispatch.yard.run in
    let T = (seen s).table in
    let n = trains T in
    let f = is_last (seen s) in
    let tables = run.tables in
    let y = run.yard in
    let whole = whole_by tables y T (number_of f n == n) (nat_le (length tables - 1) y.tried)
    (λ e i lt. eqb-true (place y.positions i) (last T i) (all_chosen f n (eqb-true (number_of f n) n e) i lt))
    (λ arrived. eq-eqb (number_of f n) n (each_chosen f n (λ i lt. eq-eqb (place y.positions i) (last T i) (arrived i
    lt))))
    (λ e. omega (arith, leb-true (length tables - 1) y.tried e))
    (λ le. le-leb (length tables - 1) y.tried (omega arith)) in
    last_by tables y (lines s) (is_whole (counts s)) whole.0 whole.1
