use Rattle.std.proofs.Common.{◌≡◌, length, None}
use Rattle.rail_model.specs.Turns.{first_below}
use Rattle.section_marks.specs.Marking.{bad_count, places, changes_of}
use Rattle.section_marks.proofs.making.check_lengths.Given as goal

abbrev pub invariant-loop-train : goal.invariant-loop-train
invariant-loop-train l =
    first_below l.train (λ i. bad_count l.section i (places l.missions i) (length (changes_of l.changes i))) ≡ None
