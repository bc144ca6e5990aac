use Rattle.std.proofs.Common.{◌≤◌, length, subst, arith}
use Rattle.std.proofs.lemmas.List.{length-map}
use Rattle.rail_model.specs.Table.{IsTable}
use Rattle.table_exchange.specs.Tables.{Stands}
use Rattle.plain_yard.specs.Keeps.{PlainRun}
use Rattle.plain_yard.specs.Lines.{most_lines}
use Rattle.plain_yard.proofs.Keeping.{few_lines, keeps_stands}
use Rattle.plain_yard.proofs.plain.PlainYard.live_in_force.Goals as goal

pub live_in_force-requires : goal.live_in_force-requires
live_in_force-requires g c =
    let stands = keeps_stands _ _ _ c.self.invariant.0 in
    omega (arith, stands.in_range, length-map c.self.inside.tables.now g.A.HasTable.offer)

pub returns-clause-stands : goal.returns-clause-stands
returns-clause-stands g c = subst (λ (run : PlainRun). Stands run.tables run.yard) c.self.view_is (keeps_stands _ _ _ c.self.invariant.0)

pub returns-clause-few : goal.returns-clause-few
returns-clause-few g c =
    subst (λ (run : PlainRun). length run.lines ≤ most_lines) c.self.view_is
    (few_lines _ _ _ c.self.invariant.0 (subst IsTable c.live_in_force.ensures.given c.live_in_force.ensures.formed))
