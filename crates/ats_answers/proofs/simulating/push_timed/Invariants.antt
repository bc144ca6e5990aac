use Rattle.std.proofs.Common.{◌≡◌, ◌++◌, drop, string_bytes}
use Rattle.ats_answers.specs.Simulating.{timed_text}
use Rattle.ats_answers.proofs.simulating.push_timed.Given as goal

abbrev pub invariant-loop-index : goal.invariant-loop-index
invariant-loop-index l =
    string_bytes l.out ++ timed_text l.names (drop l.index l.ticks) (drop l.index l.lines) ≡ string_bytes l.fn.out ++ timed_text l.names l.ticks l.lines
