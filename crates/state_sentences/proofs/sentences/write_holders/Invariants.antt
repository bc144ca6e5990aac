use Rattle.std.proofs.Common.{◌≡◌, ◌++◌, string_bytes}
use Rattle.state_sentences.specs.Explanation.{joined_below, holder_words}
use Rattle.state_sentences.proofs.sentences.write_holders.Given as goal

abbrev pub invariant-loop-holder : goal.invariant-loop-holder
invariant-loop-holder l =
    string_bytes l.out
    ≡ string_bytes l.initial.out ++ joined_below (holder_words l.scene.names.now l.scene.table.now l.scene.state.now l.section) l.holder
