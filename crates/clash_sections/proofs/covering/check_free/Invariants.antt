use Rattle.std.proofs.Common.{◌≢◌, ℕ, ◌<◌}
use Rattle.clash_sections.specs.declared.meetings.Meeting.TheVariants.{Clash}
use Rattle.clash_sections.specs.Stands.{meeting}
use Rattle.clash_sections.proofs.covering.check_free.Given as goal

abbrev pub invariant-loop-other : goal.invariant-loop-other
invariant-loop-other l = (b : ℕ) → b < l.other → meeting l.clashes l.stand b ≢ Clash
