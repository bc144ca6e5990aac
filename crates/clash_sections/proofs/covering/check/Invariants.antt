use Rattle.std.proofs.Common.{◌≡◌, ◌≢◌, ℕ, ◌<◌}
use Rattle.clash_sections.specs.declared.meetings.Meeting.TheVariants.{Free, Clash}
use Rattle.clash_sections.specs.Stands.{meeting}
use Rattle.clash_sections.proofs.covering.check.Given as goal

abbrev pub invariant-loop-stand : goal.invariant-loop-stand
invariant-loop-stand l = (a : ℕ) → a < l.stand → (b : ℕ) → meeting l.clashes a b ≡ Clash → meeting l.clashes a a ≢ Free
