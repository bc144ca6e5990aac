use Rattle.std.proofs.Common.{◌≡◌, ◌++◌, replicate}
use Rattle.document_generator.specs.Pieces.{changes_in}
use Rattle.document_generator.proofs.sections.add_changes.Given as goal

abbrev pub invariant-loop-train : goal.invariant-loop-train
invariant-loop-train l = l.found.items ≡ l.initial.found.items ++ replicate l._train (changes_in l.own l.pair)
