use Rattle.std.proofs.Common.{◌≡◌, ◌+◌, ◌++◌, drop, string_bytes}
use Rattle.rail_model.specs.Journal.{lines_text}
use Rattle.run_sentences.proofs.telling.push_lines.Given as goal

abbrev pub invariant-loop-index : goal.invariant-loop-index
invariant-loop-index l =
    string_bytes l.out ++ lines_text l.names (l.index + 1) (drop l.index l.lines) ≡ string_bytes l.initial.out ++ lines_text l.names 1 l.lines
