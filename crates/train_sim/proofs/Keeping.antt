-- What each turn keeps: one due tick per train, low enough, and one tick per line.
use Rattle.std.proofs.Common.{◌≡◌, ◌⊎◌, ℕ, ◌+◌, ◌*◌, ◌<◌, ◌≤◌, List, [], ◌∷◌, ◌++◌, length, sym, ◌∙◌, ap, subst, arith, inl, inr}
use Rattle.std.specs.Prelude.{max, slice_index}
use Rattle.std.proofs.lemmas.Bool.{cases_eq}
use Rattle.std.proofs.lemmas.List.{get_or-set_same, get_or-set_other}
use Rattle.std.proofs.Math.ListN.{length-append, length-set}
use Rattle.rail_model.specs.declared.types.Ask.{Ask}
use Rattle.rail_model.specs.declared.types.Ask.TheVariants.{Yes}
use Rattle.rail_model.specs.declared.types.Line.{Line}
use Rattle.rail_model.specs.Journal.{IsDone}
use Rattle.rail_model.specs.Move.{Move, Answers, Live, advance}
use Rattle.rail_model.specs.State.{Legal}
use Rattle.rail_model.specs.Table.{IsTable, trains}
use Rattle.rail_model.specs.Yard.{Offer, Yard, IsNextDue, in_force, moved}
use Rattle.rail_model.proofs.Asks.{told_once}
use Rattle.rail_model.proofs.Live.{arrived_or_moves}
use Rattle.table_exchange.specs.Tables.{AreTables, Stands}
use Rattle.plain_yard.specs.Lines.{most_lines}
use Rattle.plain_yard.proofs.Keeping.{few_moves}
use Rattle.plain_yard.proofs.Turns.{falls, left}
use Rattle.train_sim.specs.Steps.{Watched, Grants, IsTimedSoFar, not_before}
use Rattle.train_sim.proofs.Waiting.{put_cases}

-- all tables have the trains that have due ticks
pub same_trains : (tables : List Offer) (y : Yard) (w : Watched) (lines : List Line) → AreTables tables → Stands tables y → IsTimedSoFar tables y w lines → length w.due ≡ trains (in_force tables y)
same_trains tables y w lines are stands kept = kept.one_each ∙ sym (are.same y.table stands.in_range)

pub low_due : (tables : List Offer) (y : Yard) (w : Watched) (lines : List Line) (i : ℕ) → AreTables tables → Stands tables y → IsTable (in_force tables y) → IsTimedSoFar tables y w lines
    → i < trains (in_force tables y) → slice_index w.due i ≤ 4064000
low_due tables y w lines i are stands formed kept i_in =
    omega (arith, kept.low i (omega (arith, same_trains tables y w lines are stands kept)), few_moves tables y stands formed)

-- the answer to a train that may move
pub may_ask : (tables : List Offer) (y : Yard) (i : ℕ) (a : Ask) → Move (in_force tables y) y.positions i (advance y.positions i) → Answers (in_force tables y) y.positions i a → a ≡ Yes
may_ask tables y i a move answer = told_once (in_force tables y) y.positions i a Yes move.before answer move

pub room_granted : (tables : List Offer) (y : Yard) (w : Watched) (lines longer : List Line) (l : Line) → IsTimedSoFar tables y w lines → longer ≡ lines ++ l ∷ [] → length longer ≤ most_lines → length w.ticks < most_lines
room_granted tables y w lines longer l kept adds few =
    let all : length longer ≡ length lines + 1 = ap length adds ∙ length-append lines (l ∷ []) in
    omega (arith, kept.counted)

pub kept_granted : (tables : List Offer) (y : Yard) (w v : Watched) (lines longer : List Line) (l : Line) (i takes : ℕ) → IsTimedSoFar tables y w lines → i < length w.due → Grants w i takes v → takes ≤ 1000
    → longer ≡ lines ++ l ∷ [] → IsTimedSoFar tables (moved y i) v longer
kept_granted tables y w v lines longer l i takes kept i_in g short adds =
    let tick : ℕ = slice_index w.due i in
    let due_length : length v.due ≡ length w.due = ap length g.due ∙ length-set g.later i (tick + takes) ∙ g.puts_off.0 in
    let ticks : length v.ticks ≡ length w.ticks + 1 = ap length g.ticks ∙ length-append w.ticks (tick ∷ []) in
    let all : length longer ≡ length lines + 1 = ap length adds ∙ length-append lines (l ∷ []) in
    record {
      one_each = due_length ∙ kept.one_each;
      low = λ j lt. elim (cases_eq j i) [
        | inl same ↦
            let own : slice_index v.due i ≡ tick + takes = ap (λ d. slice_index d i) g.due ∙ get_or-set_same g.later i (tick + takes) 0 (omega (arith, g.puts_off.0)) in
            let here : slice_index v.due j ≡ slice_index v.due i = ap (slice_index v.due) same in
            omega (arith, kept.low i i_in)
        | inr other ↦
            let there : slice_index v.due j ≡ slice_index g.later j = ap (λ d. slice_index d j) g.due ∙ get_or-set_other g.later i j (tick + takes) 0 other in
            let j_put : slice_index g.later j ≡ max (slice_index w.due j) (not_before i tick j) = g.puts_off.1 j (omega arith) in
            let j_low : slice_index w.due j ≤ 1000 * y.moves = kept.low j (omega arith) in
            elim (put_cases i tick j) [
              | inl below ↦ omega (arith, below.1, kept.low i i_in)
              | inr behind ↦ omega (arith, behind.1, kept.low i i_in)
            ]
      ];
      counted = omega (arith, kept.counted);
    }

-- every turn leaves less to do
pub less_left : (tables ts us : List Offer) (y z x : Yard) (i : ℕ) → ts ≡ tables → us ≡ ts → Move (in_force tables y) y.positions i (advance y.positions i) → z ≡ moved y i
    → (x ≡ z) ⊎ (z.tried < x.tried) → Stands us x → IsTable (in_force tables y) → IsTable (in_force us x) → left us x 0 < left tables y 0
less_left tables ts us y z x i same still move moves tried stands formed new_formed =
    let all : us ≡ tables = still ∙ same in
    subst (λ (os : List Offer). left os x 0 < left tables y 0) (sym all)
    (falls tables y z x i 0 move moves tried (subst (λ (os : List Offer). Stands os x) all stands).tried formed (subst (λ (os : List Offer). IsTable (in_force os x)) all new_formed))

-- where no train may move and no table is due, all is done
pub all_done : (tables : List Offer) (y : Yard) → Legal (in_force tables y) y.positions → Live (in_force tables y) → ((i : ℕ) → Move (in_force tables y) y.positions i (advance y.positions i) → ⊥)
    → (IsNextDue tables y → ⊥) → IsDone tables y
all_done tables y legal live none undue = elim (arrived_or_moves (in_force tables y) y.positions live legal) [
  | inl arrived ↦ (arrived, λ more. undue (more, inr arrived))
  | inr w ↦ absurd (none w.0 w.1)
]
