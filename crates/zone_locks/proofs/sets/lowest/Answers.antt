use Rattle.std.proofs.Common.{sym, arith, rules}
use Rattle.zone_locks.proofs.Members.{lowest-none, lowest-some}
use Rattle.zone_locks.proofs.sets.lowest.Goals as goal

pub returns-then-bits-eq0 : goal.returns-then-bits-eq0
returns-then-bits-eq0 c = sym (lowest-none c.args.bits c.if-bits-eq0.true)

pub returns : goal.returns
returns c = sym (lowest-some c.args.bits (omega arith) (search rules))
