-- Lines are right, or there is a first line that isn't.
use Rattle.std.proofs.Common.{◌≡◌, ◌⊎◌, ℕ, ◌+◌, ◌<◌, List, [], ◌∷◌, ◌++◌, length, Option, Some, refl, sym, ap, ◌∙◌, subst, arith, inl, inr}
use Rattle.std.proofs.lemmas.Bool.{cases_eq, cases_lt}
use Rattle.rail_model.specs.declared.types.Ask.{Ask}
use Rattle.rail_model.specs.declared.types.Ask.TheVariants.{Yes, Arrived as AtEnd, Occupied, Full, Waits}
use Rattle.rail_model.specs.declared.types.Line.{Line}
use Rattle.rail_model.specs.declared.types.Line.TheVariants.{Move, Table as TableLine, KeptDiffers, KeptOver}
use Rattle.rail_model.specs.declared.types.Tried.{Tried}
use Rattle.rail_model.specs.declared.types.Tried.TheVariants.{Exchanged, Differs, Over, Early, NoMore}
use Rattle.rail_model.specs.Table.{Table, IsTable, trains, last, point, place}
use Rattle.rail_model.specs.Move.{Answers}
use Rattle.rail_model.specs.Yard.{Offer, Yard, offer, in_force, IsOpen, Tries}
use Rattle.rail_model.specs.Journal.{IsLine, IsRight, after_line, after_lines}
use Rattle.rail_model.proofs.Decide.{Dec, decide_×, decide_same}
use Rattle.rail_model.proofs.Asks.{told}
use Rattle.rail_model.proofs.Answered.{tried, tried_once}
use Rattle.table_exchange.specs.Tables.{AreTables, Stands}
use Rattle.table_exchange.proofs.Standings.{stands_line}
use Rattle.move_journal.specs.declared.faults.BadLine.{BadLine}
use Rattle.move_journal.specs.declared.faults.BadLine.TheVariants as bad
use Rattle.move_journal.specs.Replays.{IsStepBetween, IsBad, HasBadLine}

-- what is offered are tables
abbrev pub AreSound : List Offer → Type 0
AreSound tables = (t : ℕ) → t < length tables → IsTable (offer tables t).table

-- a line is right, or bad for some cause
abbrev Judged : List Offer → Yard → ℕ → Line → Type 0
Judged tables y k l = IsLine tables y l ⊎ ((e : BadLine) × IsBad tables y k l e)

decide_step : (T : Table) (p : List ℕ) (i from : ℕ) (to : Option ℕ) → Dec (IsStepBetween T p i from to)
decide_step T p i from to = decide_× _ _ (decide_same (point T i (place p i)) (Some from)) (decide_same (point T i (place p i + 1)) to)

-- a move between the right points, by what its train is told
judged_told : (tables : List Offer) (y : Yard) (k i from : ℕ) (to : Option ℕ) (a : Ask) → i < trains (in_force tables y)
    → IsStepBetween (in_force tables y) y.positions i from to → Answers (in_force tables y) y.positions i a → Judged tables y k (Move i from to)
judged_told tables y k i from to Yes within at answer = inl (answer, at.0, at.1)
judged_told tables y k i from to AtEnd within at answer = inr (bad.Move k AtEnd, (refl, (within, answer, (λ e. absurd cc), inl refl)))
judged_told tables y k i from to (Occupied by) within at answer = inr (bad.Move k (Occupied by), (refl, (within, answer, (λ e. absurd cc), inr at)))
judged_told tables y k i from to (Full s n) within at answer = inr (bad.Move k (Full s n), (refl, (within, answer, (λ e. absurd cc), inr at)))
judged_told tables y k i from to (Waits c) within at answer = inr (bad.Move k (Waits c), (refl, (within, answer, (λ e. absurd cc), inr at)))

judged_move : (tables : List Offer) (y : Yard) (k i from : ℕ) (to : Option ℕ) → AreSound tables → Stands tables y → Judged tables y k (Move i from to)
judged_move tables y k i from to sound s =
    let T = in_force tables y in
    elim (cases_lt i (trains T)) [
      | inr out ↦ inr (bad.Place k, (refl, inl out))
      | inl within ↦ elim (cases_eq (place y.positions i) (last T i)) [
        | inl end ↦ inr (bad.Move k AtEnd, (refl, (within, end, (λ e. absurd cc), inl refl)))
        | inr going ↦ elim (decide_step T y.positions i from to) [
          | inr other ↦ inr (bad.Place k, (refl, inr (going, other)))
          | inl at ↦
              let answer = told T y.positions i (sound y.table s.in_range) s.legal within in
              judged_told tables y k i from to answer.0 within at answer.1
        ]
      ]
    ]

is_exchanged : (a : Tried) → Dec (a ≡ Exchanged)
is_exchanged Exchanged = inl refl
is_exchanged (Differs i k) = inr (λ e. cc)
is_exchanged (Over s n) = inr (λ e. cc)
is_exchanged (Early m) = inr (λ e. cc)
is_exchanged NoMore = inr (λ e. cc)

is_differs : (i k : ℕ) (a : Tried) → Dec (a ≡ Differs i k)
is_differs i k Exchanged = inr (λ e. cc)
is_differs i k (Differs j l) = elim (decide_× _ _ (cases_eq j i) (cases_eq l k)) [
  | inl same ↦ inl (let left = same.0 in let right = same.1 in cc)
  | inr other ↦ inr (λ e. other (cc, cc))
]
is_differs i k (Over s n) = inr (λ e. cc)
is_differs i k (Early m) = inr (λ e. cc)
is_differs i k NoMore = inr (λ e. cc)

is_over : (s n : ℕ) (a : Tried) → Dec (a ≡ Over s n)
is_over s n Exchanged = inr (λ e. cc)
is_over s n (Differs i k) = inr (λ e. cc)
is_over s n (Over r m) = elim (decide_× _ _ (cases_eq r s) (cases_eq m n)) [
  | inl same ↦ inl (let left = same.0 in let right = same.1 in cc)
  | inr other ↦ inr (λ e. other (cc, cc))
]
is_over s n (Early m) = inr (λ e. cc)
is_over s n NoMore = inr (λ e. cc)

-- whether a line has the number of the next table and what it answers to the control
decide_table : (tables : List Offer) (y : Yard) (t : ℕ) (wanted : Tried) → AreTables tables → AreSound tables → Stands tables y
    → ((a : Tried) → Dec (a ≡ wanted)) → (Tries tables y wanted → IsOpen tables y) → Dec ((t ≡ y.tried + 1) × Tries tables y wanted)
decide_table tables y t wanted are sound s is_wanted opens = decide_× _ _ (cases_eq t (y.tried + 1)) (elim (cases_lt (y.tried + 1) (length tables)) [
  | inr none ↦ inr (λ h. omega (arith, none, opens h))
  | inl still ↦
      let answer = tried tables y (sound (y.tried + 1) still) (are.same (y.tried + 1) still ∙ sym (are.same y.table s.in_range)) in
      elim (is_wanted answer.0) [
        | inl same ↦ inl (subst (Tries tables y) same answer.1)
        | inr other ↦ inr (λ h. other (tried_once tables y answer.0 wanted answer.1 h))
      ]
])

judged : (tables : List Offer) (y : Yard) (k : ℕ) (l : Line) → AreTables tables → AreSound tables → Stands tables y → Judged tables y k l
judged tables y k (Move i from to) are sound s = judged_move tables y k i from to sound s
judged tables y k (TableLine t) are sound s = elim (decide_table tables y t Exchanged are sound s is_exchanged (λ h. h.0.0)) [
  | inl right ↦ inl right
  | inr wrong ↦ inr (bad.Table k, (refl, wrong))
]
judged tables y k (KeptDiffers t i j) are sound s = elim (decide_table tables y t (Differs i j) are sound s (is_differs i j) (λ h. h.0.0)) [
  | inl right ↦ inl right
  | inr wrong ↦ inr (bad.Table k, (refl, wrong))
]
judged tables y k (KeptOver t c n) are sound s = elim (decide_table tables y t (Over c n) are sound s (is_over c n) (λ h. h.0.0)) [
  | inl right ↦ inl right
  | inr wrong ↦ inr (bad.Table k, (refl, wrong))
]

-- a first bad line, where the first of the lines has the number k
abbrev HasBadFrom : List Offer → Yard → ℕ → List Line → BadLine → Type 0
HasBadFrom tables y k lines e =
    (front : List Line) × (l : Line) × (later : List Line) × (lines ≡ front ++ l ∷ later)
    × IsRight tables y front × IsBad tables (after_lines y front) (length front + k) l e

-- a right line goes before them
bad_behind : (tables : List Offer) (y : Yard) (k : ℕ) (x : Line) (lines : List Line) (e : BadLine) → IsLine tables y x
    → HasBadFrom tables (after_line y x) (k + 1) lines e → HasBadFrom tables y k (x ∷ lines) e
bad_behind tables y k x lines e right (front, l, later, spelled, before, is) =
    let same : length front + (k + 1) ≡ length (x ∷ front) + k = omega arith in (
      x ∷ front,
      l,
      later,
      ap (λ ls. x ∷ ls) spelled,
      (right, before),
      subst (λ n. IsBad tables (after_lines (after_line y x) front) n l e) same is,
    )

right_or_bad_from : (tables : List Offer) (y : Yard) (k : ℕ) (lines : List Line) → AreTables tables → AreSound tables → Stands tables y
    → IsRight tables y lines ⊎ ((e : BadLine) × HasBadFrom tables y k lines e)
right_or_bad_from tables y k [] are sound s = inl tt
right_or_bad_from tables y k (x ∷ lines) are sound s = elim (judged tables y k x are sound s) [
  | inr h ↦ let same : k ≡ 0 + k = omega arith in inr (h.0, ([], x, lines, refl, tt, subst (λ n. IsBad tables y n x h.0) same h.1))
  | inl right ↦ elim (right_or_bad_from tables (after_line y x) (k + 1) lines are sound (stands_line tables y x are s right)) [
    | inl all ↦ inl (right, all)
    | inr h ↦ inr (h.0, bad_behind tables y k x lines h.0 right h.1)
  ]
]

pub right_or_some_bad : (tables : List Offer) (y : Yard) (lines : List Line) → AreTables tables → Stands tables y → AreSound tables
    → IsRight tables y lines ⊎ ((e : BadLine) × HasBadLine tables y lines e)
right_or_some_bad tables y lines are s sound = right_or_bad_from tables y 1 lines are sound s
