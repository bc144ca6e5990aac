use Rattle.std.proofs.Common.{◌≡◌, ◌++◌, string_bytes}
use Rattle.state_sentences.specs.Explanation.{joined_below}
use Rattle.document_protection.specs.Protected.{guards_at}
use Rattle.document_protection.specs.Words.{table_words}
use Rattle.document_protection.proofs.telling.push_tables.Given as goal

abbrev pub invariant-loop-count : goal.invariant-loop-count
invariant-loop-count l =
    string_bytes l.out
    ≡ string_bytes l.initial.out ++ joined_below (λ t. table_words l.doc t (guards_at l.guards t)) l.count
