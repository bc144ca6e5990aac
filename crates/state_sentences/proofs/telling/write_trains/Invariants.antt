use Rattle.std.proofs.Common.{◌≡◌, ◌++◌, string_bytes}
use Rattle.state_sentences.specs.Explanation.{joined_below, train_words}
use Rattle.state_sentences.proofs.telling.write_trains.Given as goal

abbrev pub invariant-loop-train : goal.invariant-loop-train
invariant-loop-train l =
    string_bytes l.out
    ≡ string_bytes l.initial.out ++ joined_below (train_words l.scene.names.now l.sections l.scene.table.now l.scene.state.now) l.train
