use Rattle.std.proofs.Common.{◌∙◌}
use Rattle.train_sim.proofs.Keeping.{all_done, less_left}
use Rattle.train_sim.proofs.Leading.{leads_on}
use Rattle.train_sim.proofs.playing.play.Goals as goal

pub loop-train-smaller : goal.loop-train-smaller
loop-train-smaller g c =
    let tried = c.try_due-in-Some.ensures in
    less_left c.loop-train.run.tables c.move_next.new.run.tables c.try_due-in-Some.new.run.tables c.loop-train.run.yard c.move_next.new.run.yard c.try_due-in-Some.new.run.yard c.in-Some.train
    c.move_next.ensures.tables tried.tables c.in-Some.ensures.next.move c.move_next.ensures.moved tried.moved tried.stands c.loop-train.invariant.formed tried.formed

pub loop-train-preserved : goal.loop-train-preserved
loop-train-preserved g c =
    let tried = c.try_due-in-Some.ensures in
    let before = c.loop-train.invariant in
    record {
      kept = tried.kept;
      tables = tried.tables ∙ c.move_next.ensures.tables ∙ before.tables;
      formed = tried.formed;
      undue = tried.none;
      leads = leads_on c.args.run.now.tables c.loop-train.run.tables c.move_next.new.run.tables c.args.times.now _ _ _ _ _ _ _ _ _ _ _ _ before.tables c.move_next.ensures.tables before.leads c.move_next.ensures.leads
          (tried.leads c.args.times.now);
    }

pub returns-clause-done : goal.returns-clause-done
returns-clause-done g c =
    let next = c.next_mover.ensures in
    all_done c.loop-train.run.tables c.loop-train.run.yard next.stands.legal next.live c.in_default.ensures.next c.loop-train.invariant.undue
