use Rattle.std.proofs.Common.{length}
use Rattle.state_core.proofs.traps.+one_ends_early.Given as goal

abbrev pub decreases-one_ends_early : goal.decreases-one_ends_early
decreases-one_ends_early l = length l.stays.now
