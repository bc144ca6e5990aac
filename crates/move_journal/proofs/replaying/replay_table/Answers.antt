use Rattle.std.proofs.Common.{map, subst, arith, ◌≡◌, ◌+◌}
use Rattle.rail_model.specs.Yard.{Tries}
use Rattle.rail_model.proofs.Answered.{tried_once}
use Rattle.move_journal.proofs.replaying.replay_table.Goals as goal

pub returns-clause-right : goal.returns-clause-right
returns-clause-right g c =
    let tables = map g.A.HasTable.offer c.args.tables.now in
    let number : c.args.table ≡ c.args.yard.now.tried + 1 = omega (arith, c.tried.ensures, c.if-table-tried.false) in (
      (λ e. (number, subst (Tries tables c.args.yard.now) (c.is_same.ensures.0 e) c.try_table-told.ensures.answer)),
      λ h. c.is_same.ensures.1 (tried_once tables c.args.yard.now _ _ c.try_table-told.ensures.answer h.1),
    )
