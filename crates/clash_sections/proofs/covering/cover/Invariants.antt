use Rattle.std.proofs.Common.{◌≡◌, ℕ, ◌<◌, ◌≤◌, All}
use Rattle.clash_sections.specs.declared.meetings.Meeting.TheVariants.{Clash}
use Rattle.clash_sections.specs.Sections.{SomeForbids}
use Rattle.clash_sections.specs.Stands.{meeting}
use Rattle.clash_sections.specs.Tracks.{IsFit}
use Rattle.clash_sections.proofs.covering.cover.Given as goal

abbrev pub invariant-loop-stand : goal.invariant-loop-stand
invariant-loop-stand l = record {
  fit : All (IsFit l.clashes) l.sections.items;
  covered : (a : ℕ) → a < l.stand → (b : ℕ) → b ≤ a → meeting l.clashes a b ≡ Clash → SomeForbids l.sections.items a b;
}
