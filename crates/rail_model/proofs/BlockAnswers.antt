-- A block of steps has exactly one answer, and the answer's entries are a history.
use Rattle.std.proofs.Common.{◌≡◌, ◌⊎◌, ℕ, zero, suc, ◌+◌, ◌<◌, ◌≤◌, List, length, replicate, refl, ◌∙◌, ap, subst, arith, inl, inr}
use Rattle.std.specs.Prelude.{slice_set, ◌↔◌}
use Rattle.std.proofs.lemmas.Bool.{cases_lt}
use Rattle.std.proofs.lemmas.List.{get_or-set_same, set-set}
use Rattle.rail_model.specs.declared.types.Ask.{Ask}
use Rattle.rail_model.specs.declared.types.Ask.TheVariants.{Yes as Granted, Arrived, Occupied, Full, Waits}
use Rattle.rail_model.specs.declared.types.BlockAsk.{BlockAsk}
use Rattle.rail_model.specs.declared.types.BlockAsk.TheVariants.{Yes, First, NotWhole}
use Rattle.rail_model.specs.declared.types.Reply.TheVariants.{Driver}
use Rattle.rail_model.specs.Table.{Table, trains, last, place, IsTable}
use Rattle.rail_model.specs.State.{Legal}
use Rattle.rail_model.specs.Move.{Answers, Move, Run, advance}
use Rattle.rail_model.specs.Yard.{Offer, Yard, in_force, moved, advanced, StopsAfter, IsHistory}
use Rattle.rail_model.specs.Blocks.{IsBlock, steps_of, AnswersBlock, block_entries}
use Rattle.rail_model.proofs.Moves.{legal_run}
use Rattle.rail_model.proofs.Asks.{told, told_once}
use Rattle.rail_model.proofs.Answered.{advanced_none, move_within, stops_once}

-- one step after this many is one step more
advanced_more : (p : List ℕ) (i k : ℕ) → i < length p → advance (advanced p i k) i ≡ advanced p i (suc k)
advanced_more p i k lt =
    let now : place (advanced p i k) i ≡ place p i + k = get_or-set_same p i (place p i + k) 0 lt in
    let next : place (advanced p i k) i + 1 ≡ place p i + suc k = omega arith in
    set-set p i (place p i + k) (place (advanced p i k) i + 1) ∙ ap (slice_set p i) next

-- a run with a move after it is a longer run
run_more : (T : Table) (i k : ℕ) (p q r : List ℕ) → Run T p (replicate k i) q → Move T q i r → Run T p (replicate (suc k) i) r
run_more T i zero p q r run m = (r, subst (λ (x : List ℕ). Move T x i r) run m, refl)
run_more T i (suc k) p q r run m = (run.0, run.1, run_more T i k run.0 q r run.2 m)

-- the first step of a run
first_move : (T : Table) (p : List ℕ) (i n : ℕ) (q : List ℕ) → Run T p (replicate n i) q → 0 < n → Move T p i (advance p i)
first_move T p i n q run some = subst (λ (x : List ℕ). Move T x i (advance x i)) (advanced_none p i) (move_within T p i n q 0 run some)

module _ (T : Table) (p : List ℕ) (i : ℕ) where
  -- k steps can be made
  abbrev Reaches : ℕ → Type 0
  Reaches k = Run T p (replicate k i) (advanced p i k)

  -- the first of k steps that isn't granted
  record Stops (k : ℕ) : Type 0 where
    pub step : ℕ
    pub ask : Ask
    pub before : step < k
    pub made : Reaches step
    pub told : Answers T (advanced p i step) i ask
    pub refused : ask ≡ Granted → ⊥

  module _ (table : IsTable T) (legal : Legal T p) (i_in : i < trains T) where
    -- the step after those that can be made
    next : (k : ℕ) → Reaches k → (ask : Ask) → Answers T (advanced p i k) i ask → Reaches (suc k) ⊎ Stops (suc k)
    next k made Granted m =
        inl (subst (λ (q : List ℕ). Run T p (replicate (suc k) i) q) (advanced_more p i k (omega (arith, legal.one_each, i_in)))
        (run_more T i k p (advanced p i k) (advance (advanced p i k) i) made m))
    next k made Arrived h = inr (record { step = k; ask = Arrived; before = omega arith; made = made; told = h; refused = λ e. absurd (cc e) })
    next k made (Occupied by) h = inr (record { step = k; ask = Occupied by; before = omega arith; made = made; told = h; refused = λ e. absurd (cc e) })
    next k made (Full s n) h = inr (record { step = k; ask = Full s n; before = omega arith; made = made; told = h; refused = λ e. absurd (cc e) })
    next k made (Waits c) h = inr (record { step = k; ask = Waits c; before = omega arith; made = made; told = h; refused = λ e. absurd (cc e) })

    -- this many steps can be made, or one of them is the first that isn't granted
    goes : (k : ℕ) → Reaches k ⊎ Stops k
    goes zero = inl (advanced_none p i)
    goes (suc k) = elim (goes k) [
      | inr stop ↦ inr (record { step = stop.step; ask = stop.ask; before = omega (arith, stop.before); made = stop.made; told = stop.told; refused = stop.refused })
      | inl made ↦
          let answer = told T (advanced p i k) i table (legal_run T p (replicate k i) (advanced p i k) legal made) i_in in
          next k made answer.0 answer.1
    ]

    stopped : (n step : ℕ) (ask : Ask) → IsBlock T p i n → step < n → Reaches step → Answers T (advanced p i step) i ask → (ask ≡ Granted → ⊥)
        → (a : BlockAsk) × AnswersBlock T p i n a
    stopped n zero ask block lt made h refused = (First ask, (subst (λ (q : List ℕ). Answers T q i ask) (advanced_none p i) h, refused))
    stopped n (suc k) ask block lt made h refused =
        let within : place p i + suc k < last T i = elim (block.remain) [ inl one ↦ absurd (omega arith) | inr room ↦ omega arith ] in
        (NotWhole (suc k) ask, (lt, (omega arith, omega (arith, block.few), within, made, h, refused)))

    pub block_told : (n : ℕ) → IsBlock T p i n → (a : BlockAsk) × AnswersBlock T p i n a
    block_told n block = elim (goes n) [
      | inl made ↦ (Yes, (block.some, made))
      | inr stop ↦ stopped n stop.step stop.ask block stop.before stop.made stop.told stop.refused
    ]

  -- where all steps can be made, none of them is refused
  never_stops : (n step : ℕ) (ask : Ask) → Reaches n → step < n → StopsAfter T p i step ask → ⊥
  never_stops n step ask made lt stop =
      let m = move_within T p i n (advanced p i n) step made lt in
      stop.5 (told_once T (advanced p i step) i ask Granted m.before stop.4 m)

  -- where a step can be made, the first one isn't refused
  never_first : (n : ℕ) (ask : Ask) → Legal T p → Reaches n → 0 < n → Answers T p i ask → (ask ≡ Granted → ⊥) → ⊥
  never_first n ask legal made some h refused = refused (told_once T p i ask Granted legal h (first_move T p i n (advanced p i n) made some))

  pub block_told_once : (n : ℕ) (a b : BlockAsk) → Legal T p → AnswersBlock T p i n a → AnswersBlock T p i n b → a ≡ b
  block_told_once n Yes Yes legal h k = refl
  block_told_once n Yes (First ask) legal h k = absurd (never_first n ask legal h.1 h.0 k.0 k.1)
  block_told_once n Yes (NotWhole step ask) legal h k = absurd (never_stops n step ask h.1 k.0 k.1)
  block_told_once n (First ask) Yes legal h k = absurd (never_first n ask legal k.1 k.0 h.0 h.1)
  block_told_once n (First a) (First b) legal h k = ap (λ (x : Ask). First x) (told_once T p i a b legal h.0 k.0)
  block_told_once n (First a) (NotWhole step b) legal h k = absurd (never_first step a legal k.1.3 k.1.0 h.0 h.1)
  block_told_once n (NotWhole step ask) Yes legal h k = absurd (never_stops n step ask k.1 h.0 h.1)
  block_told_once n (NotWhole step a) (First b) legal h k = absurd (never_first step b legal h.1.3 h.1.0 k.0 k.1)
  block_told_once n (NotWhole s a) (NotWhole t b) legal h k =
      let same = stops_once T p i s t a b legal h.1 k.1 in
      let steps = same.0 in
      let asks = same.1 in
      cc

  -- a block that stops is one of a step more
  pub some_block_stops : (step : ℕ) (ask : Ask) → StopsAfter T p i step ask ↔ ((n : ℕ) × IsBlock T p i n × AnswersBlock T p i n (NotWhole step ask))
  some_block_stops step ask = (
    λ stop. (
      step + 1,
      record { some = omega arith; few = omega (arith, stop.1); remain = inr (omega (arith, stop.2)) },
      (omega arith, stop),
    ),
    λ answer. answer.2.1,
  )

  pub cut_to_block : (want : ℕ) → 1 ≤ want → want ≤ 4 → IsBlock T p i (steps_of T p i want)
  cut_to_block want some few = elim (cases_lt (place p i) (last T i)) [
    | inl going ↦ record { some = omega arith; few = omega arith; remain = inr (omega arith) }
    | inr ended ↦ record { some = omega arith; few = omega arith; remain = inl (omega arith) }
  ]

-- a run of one train is a history of grants
granted : (tables : List Offer) (y : Yard) (i n : ℕ) (q : List ℕ) → Run (in_force tables y) y.positions (replicate n i) q
    → IsHistory tables y (replicate n (record { who = i; reply = Driver Granted }))
granted tables y i zero q run = tt
granted tables y i (suc n) q run =
    let T = in_force tables y in
    let step = run.1.step in
    ((run.1.train, subst (λ (x : List ℕ). Move T y.positions i x) step run.1), granted tables (moved y i) i n q (subst (λ (x : List ℕ). Run T x (replicate n i) q) step run.2))

pub entries_are_a_history : (tables : List Offer) (y : Yard) (i n : ℕ) (a : BlockAsk) → i < trains (in_force tables y)
    → AnswersBlock (in_force tables y) y.positions i n a → IsHistory tables y (block_entries i n a)
entries_are_a_history tables y i n Yes lt h = granted tables y i n (advanced y.positions i n) h.1
entries_are_a_history tables y i n (First ask) lt h = ((lt, h.0), tt)
entries_are_a_history tables y i n (NotWhole step ask) lt h = ((lt, h.1), tt)
