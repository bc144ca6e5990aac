use Rattle.std.proofs.Common.{◌≡◌, take, false}
use Rattle.section_repair.specs.Core.{is_waited_for}
use Rattle.section_repair.proofs.cores.is_waited_for.Given as goal

abbrev pub invariant-loop-member : goal.invariant-loop-member
invariant-loop-member l = is_waited_for l.table l.state (take l.member-index l.group) l.train ≡ false
