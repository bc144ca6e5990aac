use Rattle.std.proofs.Common.{◌≡◌, ◌++◌, take}
use Rattle.std.specs.Prelude.{flat_map}
use Rattle.live_lines.specs.Lines.{line_of}
use Rattle.live_lines.proofs.help.push_rows.Given as goal

abbrev pub invariant-loop-row : goal.invariant-loop-row
invariant-loop-row l = l.out.items ≡ l.initial.out.items ++ flat_map (λ row. line_of l.tag row.now) (take l.row-index
    l.rows)
