-- A journal is whole, or isn't for one cause.
use Rattle.std.proofs.Common.{◌≡◌, ℕ, ◌+◌, List, sym, ap, ◌∙◌, inl, inr}
use Rattle.rail_model.specs.State.{Arrived}
use Rattle.rail_model.specs.Move.{IsFirst}
use Rattle.rail_model.specs.Yard.{Offer, Yard, in_force, IsOpen}
use Rattle.rail_model.specs.Journal.{Journal, IsDone, IsWhole, after_lines}
use Rattle.rail_model.proofs.Decide.{same_first}
use Rattle.table_exchange.specs.Arrivals.{IsUnfinished}
use Rattle.table_exchange.specs.Tables.{AreTables, Stands}
use Rattle.table_exchange.proofs.Arrivals.{none_unfinished}
use Rattle.move_journal.specs.declared.faults.BadLine.{BadLine}
use Rattle.move_journal.specs.declared.faults.BadLine.TheVariants as bad
use Rattle.move_journal.specs.Counted.{CountsAreTrue}
use Rattle.move_journal.specs.Replays.{Lacks, IsBrokenJournal}
use Rattle.move_journal.proofs.OneBadLine.{right_or_bad, one_bad}

-- one of three things that are lacking
data Lack (tables : List Offer) (y : Yard) (K : Journal) (e : BadLine) : Type 0 where
  arrival : (i : ℕ) → e ≡ bad.Unfinished i → IsFirst (IsUnfinished (in_force tables y) y.positions) i → Lack tables y K e
  answer : e ≡ bad.Open (y.tried + 1) → Arrived (in_force tables y) y.positions → IsOpen tables y → Lack tables y K e
  counts : e ≡ bad.Counts → IsDone tables y → (CountsAreTrue K → ⊥) → Lack tables y K e

lack_of : (tables : List Offer) (y : Yard) (K : Journal) (e : BadLine) → Lacks tables y K e → Lack tables y K e
lack_of tables y K (bad.Unfinished i) h = arrival i (λ j. bad.Unfinished i) h
lack_of tables y K (bad.Open t) h = answer (ap bad.Open h.2) h.0 h.1
lack_of tables y K bad.Counts h = counts (λ j. bad.Counts) h.0 h.1
lack_of tables y K (bad.Move j a) h = absurd h
lack_of tables y K (bad.Place j) h = absurd h
lack_of tables y K (bad.Table j) h = absurd h
lack_of tables y K bad.Memory h = absurd h

nothing_lacks : (tables : List Offer) (y : Yard) (K : Journal) (e : BadLine) → IsDone tables y → CountsAreTrue K → Lack tables y K e → ⊥
nothing_lacks tables y K e done true_counts (arrival i is first) = none_unfinished (in_force tables y) y.positions i done.0 first.0
nothing_lacks tables y K e done true_counts (answer is arrived open_table) = done.1 open_table
nothing_lacks tables y K e done true_counts (counts is also wrong) = wrong true_counts

one_lack : (tables : List Offer) (y : Yard) (K : Journal) (e f : BadLine) → Lack tables y K e → Lack tables y K f → e ≡ f
one_lack tables y K e f (arrival i is p) (arrival j also q) = is ∙ ap bad.Unfinished (same_first (IsUnfinished (in_force tables y) y.positions) i j p q) ∙ sym also
one_lack tables y K e f (arrival i is p) (answer also arrived q) = absurd (none_unfinished (in_force tables y) y.positions i arrived p.0)
one_lack tables y K e f (arrival i is p) (counts also done q) = absurd (none_unfinished (in_force tables y) y.positions i done.0 p.0)
one_lack tables y K e f (answer is arrived p) (arrival j also q) = absurd (none_unfinished (in_force tables y) y.positions j arrived q.0)
one_lack tables y K e f (answer is arrived p) (answer also too q) = is ∙ sym also
one_lack tables y K e f (answer is arrived p) (counts also done q) = absurd (done.1 p)
one_lack tables y K e f (counts is done p) (arrival j also q) = absurd (none_unfinished (in_force tables y) y.positions j done.0 q.0)
one_lack tables y K e f (counts is done p) (answer also arrived q) = absurd (done.1 q)
one_lack tables y K e f (counts is done p) (counts also too q) = is ∙ sym also

pub whole_or_not : (tables : List Offer) (y : Yard) (K : Journal) (e : BadLine) → IsWhole tables y K → IsBrokenJournal tables y K e → ⊥
whole_or_not tables y K e whole (inl h) = right_or_bad tables y K.lines e whole.right h
whole_or_not tables y K e whole (inr h) =
    nothing_lacks tables (after_lines y K.lines) K e whole.done (whole.moves, whole.exchanges) (lack_of tables (after_lines y K.lines) K e h.1)

pub one_cause_not_whole : (tables : List Offer) (y : Yard) (K : Journal) (e f : BadLine) → AreTables tables → Stands tables y → IsBrokenJournal tables y K e → IsBrokenJournal tables y K f → e ≡ f
one_cause_not_whole tables y K e f are s (inl h) (inl g) = one_bad tables y K.lines e f are s h g
one_cause_not_whole tables y K e f are s (inl h) (inr g) = absurd (right_or_bad tables y K.lines e g.0 h)
one_cause_not_whole tables y K e f are s (inr h) (inl g) = absurd (right_or_bad tables y K.lines f h.0 g)
one_cause_not_whole tables y K e f are s (inr h) (inr g) =
    one_lack tables (after_lines y K.lines) K e f (lack_of tables (after_lines y K.lines) K e h.1) (lack_of tables (after_lines y K.lines) K f g.1)
