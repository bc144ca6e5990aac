use Rattle.std.proofs.Common.{IfSome}
use Rattle.clash_sections.specs.Tracks.{IsFit}
use Rattle.clash_sections.proofs.choosing.best_section.Given as goal

abbrev pub invariant-loop-many : goal.invariant-loop-many
invariant-loop-many l = IfSome l.best (IsFit l.clashes)
