use Rattle.zone_machine.proofs.Prelude.{◌∙◌, sym, subst, Setup, Sound}
use Rattle.zone_machine.proofs.Acting.{made_sound}
use Rattle.zone_machine.proofs.machine.Core.step.Goals as goal

pub returns-in-None-clause-sound : goal.returns-in-None-clause-sound
returns-in-None-clause-sound g c =
    subst (λ (S : Setup). Sound S c.make.new.self.world) (sym c.make.ensures.setup)
    (made_sound c.args.self.now.setup c.args.self.now.world c.args.actor c.args.step c.refusal.ensures.formed c.refusal.ensures.sound
    (sym c.refusal.ensures.cause ∙ c.in-None.is) c.make.new.self.world c.make.ensures.world)
