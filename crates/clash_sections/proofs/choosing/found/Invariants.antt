use Rattle.std.proofs.Common.{All}
use Rattle.clash_sections.specs.Tracks.{IsFit}
use Rattle.clash_sections.proofs.choosing.found.Given as goal

abbrev pub invariant-loop : goal.invariant-loop
invariant-loop l = All (IsFit l.clashes) l.sections.items
