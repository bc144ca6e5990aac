use Rattle.std.proofs.Common.{◌≡◌, ◌++◌, string_bytes}
use Rattle.state_sentences.specs.Explanation.{joined_below}
use Rattle.state_sentences.specs.KnotWords.{member_share_words}
use Rattle.state_sentences.proofs.knots.write_member_shares.Given as goal

abbrev pub invariant-loop-train : goal.invariant-loop-train
invariant-loop-train l =
    string_bytes l.out
    ≡ string_bytes l.initial.out ++ joined_below (member_share_words l.scene.names.now l.scene.table.now l.scene.state.now l.knot l.section) l.train
