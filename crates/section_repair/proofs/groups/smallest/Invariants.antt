use Rattle.std.proofs.Common.{◌≡◌, take, None}
use Rattle.std.specs.Prelude.{find}
use Rattle.section_repair.specs.Core.{is_smallest}
use Rattle.section_repair.proofs.groups.smallest.Given as goal

abbrev pub invariant-loop-group : goal.invariant-loop-group
invariant-loop-group l = find (is_smallest l.groups) (take l.group-index l.groups) ≡ None
