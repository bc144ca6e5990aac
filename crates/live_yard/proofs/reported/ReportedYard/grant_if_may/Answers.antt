use Rattle.std.proofs.Common.{sym, ap, subst, ◌∙◌}
use Rattle.live_yard.specs.declared.told.Told.{Told}
use Rattle.live_yard.specs.Reported.{TellsTrain, after_told}
use Rattle.live_yard.proofs.Following.{after_held}
use Rattle.live_yard.proofs.reported.ReportedYard.grant_if_may.Goals as goal

pub grant-requires-clause-may : goal.grant-requires-clause-may
grant-requires-clause-may g c =
    subst (λ (told : Told). TellsTrain c.args.self.now c.args.train told) c.in-May.is c.requires.told

pub returns-in-May : goal.returns-in-May
returns-in-May g c = c.grant.ensures
    ∙ sym (ap (λ (told : Told). after_told c.args.self.now c.args.train told) c.in-May.is)

pub returns-in_default : goal.returns-in_default
returns-in_default g c = sym (after_held c.args.self.now c.args.train c.args.told c.in_default.not-May)
