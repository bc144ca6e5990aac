use Rattle.std.proofs.Common.{◌≡◌, ◌++◌, string_bytes, take}
use Rattle.std.specs.Prelude.{flat_map}
use Rattle.state_sentences.specs.Circle.{waits_for}
use Rattle.state_sentences.specs.Explanation.{pair_words}
use Rattle.state_sentences.proofs.circles.write_circle.Given as goal

abbrev pub invariant-loop-train : goal.invariant-loop-train
invariant-loop-train l =
    string_bytes l.out
    ≡ string_bytes l.initial.out ++ flat_map (λ k. pair_words l.scene.names.now k (waits_for l.scene.table.now l.scene.state.now k)) (take l.train-index l.circle)
