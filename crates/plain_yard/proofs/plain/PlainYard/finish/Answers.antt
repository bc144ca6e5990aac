use Rattle.std.proofs.Common.{map}
use Rattle.plain_yard.proofs.Keeping.{keeps_ready, keeps_finish}
use Rattle.plain_yard.proofs.plain.PlainYard.finish.Goals as goal

pub finish_lines-requires : goal.finish_lines-requires
finish_lines-requires g c = keeps_ready _ _ _ _ c.self.invariant.0 c.self.invariant.1

pub returns-clause-keeps : goal.returns-clause-keeps
returns-clause-keeps g c =
    keeps_finish (map g.A.HasTable.offer c.self.inside.tables.now) _ _ _ _ _ c.self.invariant.0 c.finish_lines.ensures.round

pub invariant_of-self : goal.invariant_of-self
invariant_of-self g c = (returns-clause-keeps g c, c.finish_lines.ensures.ready.room)
