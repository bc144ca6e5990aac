use Rattle.std.proofs.Common.{◌≡◌, ◌++◌, flat_map, string_bytes, take}
use Rattle.planner_run.specs.Reporting.{remark_line}
use Rattle.planner_run.proofs.linting.push_lines.Given as goal

abbrev pub invariant-loop-remark : goal.invariant-loop-remark
invariant-loop-remark l = string_bytes l.out ≡ string_bytes l.initial.out ++ flat_map remark_line (take l.remark-index l.remarks)
