use Rattle.std.proofs.Common.{List, ℕ, map, subst, arith}
use Rattle.std.specs.Prelude.{◌↔◌, IsTrue}
use Rattle.rail_model.specs.State.{Arrived}
use Rattle.live_session.proofs.Standing.{done_matches, due_matches, open_isnt_done}
use Rattle.live_session.proofs.status.status_of.Goals as goal

pub returns-in-Some : goal.returns-in-Some
returns-in-Some g c =
    let tables = map g.A.HasTable.offer c.args.tables.now in record {
      due = due_matches tables c.args.yard.now _ _ _ c.requires.now c.in-Some.ensures.1
          c.in-Some.ensures.0 c.due_of.ensures;
      done = open_isnt_done tables c.args.yard.now c.in-Some.ensures.0;
    }

pub returns-in-None : goal.returns-in-None
returns-in-None g c =
    let tables = map g.A.HasTable.offer c.args.tables.now in record {
      due = λ due. omega (arith, c.in-None.ensures, due.0);
      done = done_matches tables c.args.yard.now _ _ c.requires.now c.in-None.ensures
          (subst (λ (p : List ℕ). IsTrue c.all_arrived.result ↔ Arrived c.args.now.now p)
          c.positions.ensures c.all_arrived.ensures);
    }
