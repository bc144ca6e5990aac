-- A train that asks again for a place that a line granted it.
use Rattle.std.proofs.Common.{◌≡◌, Bool, ℕ, zero, suc, ◌+◌, ◌-◌, ◌<◌, ◌≤◌, List, length, cond, drop, get_or, Some, true}
use Rattle.std.proofs.Common.{refl, ap, ◌∙◌, arith, inl, inr}
use Rattle.std.proofs.lemmas.Bool.{cases_order}
use Rattle.std.proofs.lemmas.Option.{get_or_from_slice_get}
use Rattle.rail_model.specs.declared.types.Line.{Line}
use Rattle.rail_model.specs.Table.{last}
use Rattle.live_yard.specs.declared.granted_lines.Passed.{Passed}
use Rattle.live_yard.specs.declared.granted_lines.Passed.TheVariants.{Granted, Begun}
use Rattle.live_yard.specs.GrantedLines.{BeganAt, IsPassed, WasGranted, moves, moves_of}
use Rattle.live_yard.proofs.PassedPlaces.{moves_of-before}
use Rattle.live_yard.specs.declared.requests.Elsewhere.{Elsewhere as ElsewhereValue}
use Rattle.live_yard.specs.declared.requests.Elsewhere.TheVariants.{Beyond, Ahead, Before}
use Rattle.live_yard.specs.declared.requests.Reply.{Reply}
use Rattle.live_yard.specs.declared.requests.Reply.TheVariants.{Elsewhere}
use Rattle.live_yard.specs.Answers.{AtNext}
use Rattle.live_yard.specs.Firing.{DispatchState}
use Rattle.live_yard.specs.Reported.{Reported, IsElsewhere, IsReported, place_of, table_of}
use Rattle.live_yard.proofs.Following.{stands_of, trains_are}

-- later lines have no more moves of a train
fewer : (i : ℕ) (lines : List Line) (n more : ℕ) (d : Line) → n + more ≤ length lines
    → moves_of i (drop (n + more) lines) ≤ moves_of i (drop n lines)
fewer i lines n zero d within =
    omega (arith, ap (λ (k : ℕ). moves_of i (drop k lines)) (let e : n + 0 ≡ n = omega arith in e))
fewer i lines n (suc more) d within =
    let before = fewer i lines n more d (omega (arith, within)) in
    let one = moves_of-before i lines (n + suc more) d (omega arith) within in
    let same = ap (λ (k : ℕ). moves_of i (drop k lines)) (let e : n + suc more - 1 ≡ n + more = omega arith in e) in
    omega (arith, before, one, same)

-- the line of a grant is a move of the train
granting : (lines : List Line) (at i k n : ℕ) → WasGranted lines at i k n
    → moves_of i (drop (n - 1) lines) ≡ moves_of i (drop n lines) + 1
granting lines at i k n was =
    let l = was.line.0 in
    let here : get_or lines (n - 1) l ≡ l = get_or_from_slice_get lines (n - 1) l l was.line.1 in
    let is : moves i (get_or lines (n - 1) l) ≡ true = ap (λ (x : Line). moves i x) here ∙ was.line.2 in
    let one : ◌≡◌ {A = ℕ} (cond (moves i (get_or lines (n - 1) l)) 1 0) 1 = ap (λ (b : Bool). cond b 1 0) is in
    omega (arith, one, moves_of-before i lines n l was.counted was.within)

-- no later line granted the same place
not_later : (lines : List Line) (at i k n m : ℕ) → WasGranted lines at i k n → WasGranted lines at i k m → n < m → ⊥
not_later lines at i k n m was is more =
    let last : n + (m - 1 - n) ≡ m - 1 = omega (arith, more) in
    let few = fewer i lines n (m - 1 - n) (was.line.0) (omega (arith, is.within, last)) in
    let same = ap (λ (j : ℕ). moves_of i (drop j lines)) last in
    omega (arith, few, same, granting lines at i k m is, was.later, is.later)

pub granted_once : (lines : List Line) (at i k n m : ℕ) → WasGranted lines at i k n → WasGranted lines at i k m → n ≡ m
granted_once lines at i k n m was is = elim (cases_order n m) [
  | inl same ↦ same
  | inr (inl more) ↦ absurd (not_later lines at i k n m was is more)
  | inr (inr less) ↦ absurd (not_later lines at i k m n is was less)
]

-- a place that was granted is past the one where the train began
pub past_start : (lines : List Line) (at i k n start : ℕ) → WasGranted lines at i k n → BeganAt lines at i start
    → k ≤ start → ⊥
past_start lines at i k n start was began low =
    let same : 0 + (n - 1) ≡ n - 1 = omega arith in
    let few = fewer i lines 0 (n - 1) (was.line.0) (omega (arith, was.within)) in
    let drops = ap (λ (j : ℕ). moves_of i (drop j lines)) same in
    let all = ap (λ (ls : List Line). moves_of i ls) (let e : drop 0 lines ≡ lines = refl in e) in
    omega (arith, few, drops, all, granting lines at i k n was, was.later, began, low)

-- so it was passed by that line alone
passed_once : (lines : List Line) (at i k n : ℕ) (how : Passed) → WasGranted lines at i k n → IsPassed lines at i k how
    → how ≡ Granted n
passed_once lines at i k n (Granted m) was is = ap (λ (j : ℕ). Granted j) (granted_once lines at i k m n is was)
passed_once lines at i k n (Begun start) was is = absurd (past_start lines at i k n start was is.0 is.1)

granted_before : (v : Reported) (i k n : ℕ) (found : ElsewhereValue) → IsReported v → i < length v.there
    → WasGranted v.run.lines (place_of v i) i k n
    → IsElsewhere v i k found → found ≡ Before (Granted n)
granted_before v i k n (Beyond l) is within was other =
    let there : place_of v i ≤ last (table_of v) i =
    (stands_of v is).legal.in_range i (omega (arith, within, trains_are v is)) in
    absurd (omega (arith, there, was.later, other.0, other.1))
granted_before v i k n (Ahead at) is within was other = absurd (omega (arith, was.later, other.0, other.1))
granted_before v i k n (Before how) is within was other =
    ap (λ h. Before h) (passed_once v.run.lines (place_of v i) i k n how was other.1)

pub repeats : (v w : DispatchState) (i k n : ℕ) (reply : Reply) (asks : Type 0) → IsReported v.yard
    → i < length v.yard.there
    → AtNext v i (Some k) reply w asks → WasGranted v.yard.run.lines (place_of v.yard i) i k n
    → (reply ≡ Elsewhere (Before (Granted n))) × (w ≡ v)
repeats v w i k n reply asks is within at was = elim at [
  | inl next ↦ absurd (omega (arith, was.later, next.0.0))
  | inr other ↦
      let found : other.0 ≡ Before (Granted n) = granted_before v.yard i k n other.0 is within was other.2 in
      (other.1 ∙ ap (λ (f : ElsewhereValue). Elsewhere f) found, other.3)
]
