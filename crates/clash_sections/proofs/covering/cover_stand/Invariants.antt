use Rattle.std.proofs.Common.{◌≡◌, ℕ, ◌<◌, All}
use Rattle.clash_sections.specs.declared.meetings.Meeting.TheVariants.{Clash}
use Rattle.clash_sections.specs.Sections.{SomeForbids}
use Rattle.clash_sections.specs.Stands.{meeting}
use Rattle.clash_sections.specs.Tracks.{IsFit}
use Rattle.clash_sections.proofs.covering.cover_stand.Given as goal

abbrev pub invariant-loop-other : goal.invariant-loop-other
invariant-loop-other l = record {
  fit : All (IsFit l.clashes) l.sections.items;
  kept : (a b : ℕ) → SomeForbids l.initial.sections.items a b → SomeForbids l.sections.items a b;
  covered : (b : ℕ) → b < l.other → meeting l.clashes l.stand b ≡ Clash → SomeForbids l.sections.items l.stand b;
}
