use Rattle.std.proofs.Common.{◌≡◌, ◌++◌, string_bytes}
use Rattle.state_sentences.specs.Explanation.{joined_below}
use Rattle.state_sentences.specs.KnotWords.{member_words}
use Rattle.state_sentences.proofs.knots.write_members.Given as goal

abbrev pub invariant-loop-train : goal.invariant-loop-train
invariant-loop-train l =
    string_bytes l.out
    ≡ string_bytes l.initial.out ++ joined_below (member_words l.scene.names.now l.sections l.scene.table.now l.scene.state.now l.knot) l.train
