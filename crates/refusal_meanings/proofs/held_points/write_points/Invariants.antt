use Rattle.std.proofs.Common.{◌≡◌, ◌++◌, string_bytes}
use Rattle.state_sentences.specs.Explanation.{joined_below}
use Rattle.refusal_meanings.specs.HeldPoints.{listed_point}
use Rattle.refusal_meanings.proofs.held_points.write_points.Given as goal

abbrev pub invariant-loop-index : goal.invariant-loop-index
invariant-loop-index l = string_bytes l.out ≡ string_bytes l.initial.out ++ joined_below (listed_point l.names l.points) l.index
