use Rattle.std.proofs.Common.{map, rules, sym, subst}
use Rattle.rail_model.specs.declared.types.Tried.TheVariants.{Exchanged, Differs, Over}
use Rattle.table_exchange.specs.Tables.{Stands}
use Rattle.table_exchange.proofs.Standings.{stands_exchanged, tries_admitted}
use Rattle.table_exchange.proofs.steps.try_table.Goals as goal

pub returns-in-Ok-clause-answer : goal.returns-in-Ok-clause-answer
returns-in-Ok-clause-answer g c =
    tries_admitted (map g.A.HasTable.offer c.args.tables.now) c.args.yard.now _ _ Exchanged c.in_force-table.ensures.given c.in-Some.ensures.1 c.in-Some.ensures.0
    (c.is_next_due.ensures.0 (search rules)) c.in-Ok.ensures.admits

pub returns-in-Ok-clause-stands : goal.returns-in-Ok-clause-stands
returns-in-Ok-clause-stands g c =
    let tables = map g.A.HasTable.offer c.args.tables.now in
    subst (Stands tables) (sym c.exchange.ensures)
    (stands_exchanged tables c.args.yard.now c.requires.tables c.requires.stands c.in-Some.ensures.0 (returns-in-Ok-clause-answer g c).1)

pub returns-in-Err-Differs-clause-answer : goal.returns-in-Err-Differs-clause-answer
returns-in-Err-Differs-clause-answer g c =
    tries_admitted (map g.A.HasTable.offer c.args.tables.now) c.args.yard.now _ _ (Differs c.in-Err-Differs.train c.in-Err-Differs.place) c.in_force-table.ensures.given c.in-Some.ensures.1
    c.in-Some.ensures.0 (c.is_next_due.ensures.0 (search rules)) (rw c.in-Err-Differs.field-0-is at c.in-Err-Differs.ensures.admits)

pub returns-in-Err-Over-clause-answer : goal.returns-in-Err-Over-clause-answer
returns-in-Err-Over-clause-answer g c =
    tries_admitted (map g.A.HasTable.offer c.args.tables.now) c.args.yard.now _ _ (Over c.in-Err-Over.section c.in-Err-Over.count) c.in_force-table.ensures.given c.in-Some.ensures.1
    c.in-Some.ensures.0 (c.is_next_due.ensures.0 (search rules)) (rw c.in-Err-Over.field-0-is at c.in-Err-Over.ensures.admits)
