use Rattle.std.proofs.Common.{length}
use Rattle.state_core.proofs.traps.+are_stays.Given as goal

abbrev pub decreases-are_stays : goal.decreases-are_stays
decreases-are_stays l = length l.stays.now
