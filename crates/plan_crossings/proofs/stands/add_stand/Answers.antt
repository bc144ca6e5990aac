use Rattle.plan_crossings.proofs.Known.{known-pushed}
use Rattle.plan_crossings.proofs.stands.add_stand.Goals as goal

pub returns-in_ok-push-clause-added : goal.returns-in_ok-push-clause-added
returns-in_ok-push-clause-added c =
    known-pushed c.args.stands.now.items c.push.new.self.items c.args.stand c.in_ok-push.ensures.items
