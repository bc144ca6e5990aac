use Rattle.std.proofs.Common.{sym, ◌∙◌}
use Rattle.ats_answers.proofs.Turned.{turned}
use Rattle.ats_answers.proofs.turns.make_turn.Goals as goal

pub returns-in-Some-clause-world : goal.returns-in-Some-clause-world
returns-in-Some-clause-world g c =
    turned c.args.core.now.setup c.args.actor c.args.core.now.world c.step.new.self.world c.in-Some.step c.step.result (sym c.next.ensures ∙ c.in-Some.is) c.step.ensures.steps
