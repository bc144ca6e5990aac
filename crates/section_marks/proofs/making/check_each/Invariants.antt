use Rattle.std.proofs.Common.{◌≡◌, None}
use Rattle.rail_model.specs.Turns.{first_below}
use Rattle.section_marks.specs.Marking.{section_refusal, section_at}
use Rattle.section_marks.proofs.making.check_each.Given as goal

abbrev pub invariant-loop-number : goal.invariant-loop-number
invariant-loop-number l =
    first_below l.number (λ s. section_refusal l.marks l.missions s (section_at l.sections s)) ≡ None
