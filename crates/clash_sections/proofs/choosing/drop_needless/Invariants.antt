use Rattle.std.proofs.Common.{All}
use Rattle.clash_sections.specs.Tracks.{IsFit}
use Rattle.clash_sections.proofs.choosing.drop_needless.Given as goal

abbrev pub invariant-loop-index : goal.invariant-loop-index
invariant-loop-index l = All (IsFit l.clashes) l.sections.items
