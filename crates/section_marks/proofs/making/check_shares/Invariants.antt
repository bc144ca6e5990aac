use Rattle.std.proofs.Common.{◌≡◌, None}
use Rattle.rail_model.specs.Turns.{first_below}
use Rattle.section_marks.specs.Marking.{train_refusal, places, changes_of}
use Rattle.section_marks.proofs.making.check_shares.Given as goal

abbrev pub invariant-loop-train : goal.invariant-loop-train
invariant-loop-train l =
    first_below l.train (λ i. train_refusal l.marks l.section i (places l.missions i) (changes_of l.changes i)) ≡ None
