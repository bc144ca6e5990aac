use Rattle.std.proofs.Common.{◌≡◌, map}
use Rattle.rail_model.specs.Checks.{below}
use Rattle.document_generator.specs.Pieces.{change_in}
use Rattle.document_generator.proofs.sections.changes.Given as goal

abbrev pub invariant-loop-place : goal.invariant-loop-place
invariant-loop-place l = l.found.items ≡ map (change_in l.own l.pair) (below l.place)
