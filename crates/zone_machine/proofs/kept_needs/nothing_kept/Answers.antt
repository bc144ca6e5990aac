use Rattle.zone_machine.proofs.Prelude.{sym, subst}
use Rattle.zone_machine.specs.Keeping.{AreKept}
use Rattle.zone_machine.proofs.NothingKept.{none_kept}
use Rattle.zone_machine.proofs.kept_needs.nothing_kept.Goals as goal

pub returns : goal.returns
returns c = λ S. subst (AreKept S) (sym c.loop-number.invariant) (none_kept c.loop-number._number S)
