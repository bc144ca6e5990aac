use Rattle.std.proofs.Common.{◌≡◌, take}
use Rattle.run_sentences.proofs.NeverBoth.{tables_of}
use Rattle.run_sentences.proofs.apart.tables_copied.Given as goal

abbrev pub invariant-loop-number : goal.invariant-loop-number
invariant-loop-number l = l.tables.items ≡ take l.number (tables_of l.doc)
