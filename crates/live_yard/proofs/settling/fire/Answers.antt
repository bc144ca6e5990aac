use Rattle.std.proofs.Common.{ℕ, length, sym, ap, subst, ◌∙◌}
use Rattle.live_yard.specs.Reported.{MayGoOn, Reported, granted}
use Rattle.live_yard.proofs.Following.{granted_size}
use Rattle.live_yard.proofs.settling.fire.Goals as goal

pub grant-requires-clause-may : goal.grant-requires-clause-may
grant-requires-clause-may g c =
    subst (λ (i : ℕ). MayGoOn c.args.yard.now i) (sym c.remove-train.ensures.train) c.requires.can.1

pub returns-clause-yard : goal.returns-clause-yard
returns-clause-yard g c = c.grant.ensures ∙ ap (λ (i : ℕ). granted c.args.yard.now i) c.remove-train.ensures.train

pub returns-clause-trains : goal.returns-clause-trains
returns-clause-trains g c =
    c.remove-train.ensures.trains ∙ c.requires.trains
    ∙ sym (ap (λ (v : Reported). length v.there) c.grant.ensures ∙ granted_size c.args.yard.now c.remove-train.result)
