use Rattle.std.proofs.Common.{map}
use Rattle.plain_yard.proofs.Keeping.{few_lines, keeps_ready, keeps_asked}
use Rattle.plain_yard.proofs.plain.PlainYard.ask.Goals as goal

pub ask_line-requires-clause-ready : goal.ask_line-requires-clause-ready
ask_line-requires-clause-ready g c = keeps_ready _ _ _ _ c.self.invariant.0 c.self.invariant.1

pub returns-clause-keeps : goal.returns-clause-keeps
returns-clause-keeps g c =
    keeps_asked (map g.A.HasTable.offer c.self.inside.tables.now) _ _ _ _ c.args.train c.ask_line.result c.self.invariant.0 c.ask_line.ensures.answer c.ask_line.ensures.after c.ask_line.ensures.adds

pub returns-clause-few : goal.returns-clause-few
returns-clause-few g c = few_lines _ _ _ (returns-clause-keeps g c) c.ask_line.ensures.formed

pub invariant_of-self : goal.invariant_of-self
invariant_of-self g c = (returns-clause-keeps g c, c.ask_line.ensures.ready.room)
