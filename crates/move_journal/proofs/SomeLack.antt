-- A journal is whole, or there is a cause why it isn't.
use Rattle.std.proofs.Common.{◌⊎◌, ℕ, ◌+◌, List, length, refl, inl, inr}
use Rattle.std.specs.List.{count_by}
use Rattle.std.proofs.lemmas.Bool.{cases_eq}
use Rattle.rail_model.specs.Table.{trains, last, place}
use Rattle.rail_model.specs.Yard.{Offer, Yard, in_force}
use Rattle.rail_model.specs.Journal.{Journal, IsDone, IsWhole, after_lines, is_move, is_table}
use Rattle.rail_model.proofs.Decide.{Dec, decide_<, decide_×, decide_¬, first_or_none}
use Rattle.table_exchange.specs.Arrivals.{IsUnfinished}
use Rattle.table_exchange.specs.Tables.{AreTables, Stands}
use Rattle.table_exchange.proofs.Arrivals.{arrived_unless}
use Rattle.move_journal.specs.declared.faults.BadLine.{BadLine}
use Rattle.move_journal.specs.declared.faults.BadLine.TheVariants as bad
use Rattle.move_journal.specs.Counted.{CountsAreTrue}
use Rattle.move_journal.specs.Replays.{Lacks, IsBrokenJournal}
use Rattle.move_journal.proofs.SomeBadLine.{AreSound, right_or_some_bad}

decide_unfinished : (tables : List Offer) (y : Yard) (i : ℕ) → Dec (IsUnfinished (in_force tables y) y.positions i)
decide_unfinished tables y i = decide_× _ _ (decide_< i (trains (in_force tables y))) (decide_¬ _ (cases_eq (place y.positions i) (last (in_force tables y) i)))

-- nothing lacks where lines end, or something does
done_or_lack : (tables : List Offer) (y : Yard) (K : Journal) → (IsDone tables y × CountsAreTrue K) ⊎ ((e : BadLine) × Lacks tables y K e)
done_or_lack tables y K = elim (first_or_none (trains (in_force tables y)) (IsUnfinished (in_force tables y) y.positions) (decide_unfinished tables y) (λ i unfinished. unfinished.0)) [
  | inl found ↦ inr (bad.Unfinished found.0, found.1)
  | inr none ↦
      let arrived = arrived_unless (in_force tables y) y.positions none in
      elim (decide_< (y.tried + 1) (length tables)) [
        | inl still ↦ inr (bad.Open (y.tried + 1), (arrived, still, refl))
        | inr answered ↦ elim (decide_× _ _ (cases_eq K.moves (count_by is_move K.lines)) (cases_eq K.tables (count_by is_table K.lines))) [
          | inl counted ↦ inl ((arrived, answered), counted)
          | inr wrong ↦ inr (bad.Counts, ((arrived, answered), wrong))
        ]
      ]
]

pub whole_or_some_cause : (tables : List Offer) (y : Yard) (K : Journal) → AreTables tables → Stands tables y → AreSound tables
    → IsWhole tables y K ⊎ ((e : BadLine) × IsBrokenJournal tables y K e)
whole_or_some_cause tables y K are s sound = elim (right_or_some_bad tables y K.lines are s sound) [
  | inr h ↦ inr (h.0, inl h.1)
  | inl right ↦ elim (done_or_lack tables (after_lines y K.lines) K) [
    | inr h ↦ inr (h.0, inr (right, h.1))
    | inl h ↦ inl (record { right = right; done = h.0; moves = h.1.0; exchanges = h.1.1 })
  ]
]
