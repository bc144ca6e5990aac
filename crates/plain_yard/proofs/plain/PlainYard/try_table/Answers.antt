use Rattle.std.proofs.Common.{map}
use Rattle.plain_yard.proofs.Keeping.{few_lines, keeps_ready, keeps_tried}
use Rattle.plain_yard.proofs.plain.PlainYard.try_table.Goals as goal

pub try_line-requires : goal.try_line-requires
try_line-requires g c = keeps_ready _ _ _ _ c.self.invariant.0 c.self.invariant.1

pub returns-clause-keeps : goal.returns-clause-keeps
returns-clause-keeps g c =
    keeps_tried (map g.A.HasTable.offer c.self.inside.tables.now) _ _ _ _ c.try_line.result c.self.invariant.0 c.try_line.ensures.answer c.try_line.ensures.after c.try_line.ensures.adds

pub returns-clause-few : goal.returns-clause-few
returns-clause-few g c = few_lines _ _ _ (returns-clause-keeps g c) c.try_line.ensures.formed

pub invariant_of-self : goal.invariant_of-self
invariant_of-self g c = (returns-clause-keeps g c, c.try_line.ensures.ready.room)
