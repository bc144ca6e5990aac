use Rattle.zone_locks.proofs.Members.{members-none}
use Rattle.zone_locks.proofs.sets.ZoneSet.none.Goals as goal

pub returns : goal.returns
returns c = members-none
