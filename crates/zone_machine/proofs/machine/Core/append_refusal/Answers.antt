use Rattle.zone_machine.proofs.Refusing.{is_driver}
use Rattle.zone_machine.proofs.machine.Core.append_refusal.Goals as goal

pub driver_refusal-requires-clause-train : goal.driver_refusal-requires-clause-train
driver_refusal-requires-clause-train g c = is_driver c.args.self.now.setup c.args.number c.requires.actor c.if-number-eq-CONTROL.false
