use Rattle.std.proofs.Common.{◌≡◌, ◌+◌, ◌++◌, [], length, string_bytes}
use Rattle.std.specs.Prelude.{slice_index_or}
use Rattle.state_sentences.specs.Explanation.{joined_below}
use Rattle.document_protection.specs.Words.{guard_words}
use Rattle.document_protection.proofs.telling.push_guards.Given as goal

abbrev pub invariant-loop-count : goal.invariant-loop-count
invariant-loop-count l =
    string_bytes l.out
    ≡ string_bytes l.initial.out
    ++ joined_below
    (λ k. guard_words l.told.names.now l.told.table.now l.number (length l.told.table.now.sections + k)
    (slice_index_or l.guards k []))
    l.count
