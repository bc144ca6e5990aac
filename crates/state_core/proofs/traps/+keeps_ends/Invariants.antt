use Rattle.std.proofs.Common.{length}
use Rattle.state_core.proofs.traps.+keeps_ends.Given as goal

abbrev pub decreases-keeps_ends : goal.decreases-keeps_ends
decreases-keeps_ends l = length l.stays.now
