use Rattle.std.proofs.Common.{◌≡◌, ◌+◌, ◌++◌, take, drop, string_bytes, All}
use Rattle.rail_model.specs.Journal.{lines_text}
use Rattle.move_journal.specs.Printable.{IsPrintable}
use Rattle.move_journal.proofs.writing.text.Given as goal

abbrev pub invariant-loop-index : goal.invariant-loop-index
invariant-loop-index l = record {
  written : string_bytes l.out ++ lines_text l.names (l.index + 1) (drop l.index l.lines) ≡ lines_text l.names 1 l.lines;
  printable : All (IsPrintable l.names) (take l.index l.lines);
}
