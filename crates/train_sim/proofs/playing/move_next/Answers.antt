use Rattle.std.proofs.Common.{◌<◌, ◌≤◌, List, length, subst, sym, arith}
use Rattle.std.specs.Prelude.{slice_index}
use Rattle.rail_model.specs.Lines.{move_line}
use Rattle.rail_model.specs.Yard.{Offer, Yard}
use Rattle.plain_yard.proofs.Keeping.{keeps_stands}
use Rattle.train_sim.specs.Steps.{IsTimedSoFar}
use Rattle.train_sim.proofs.Keeping.{kept_granted, low_due, room_granted, same_trains}
use Rattle.train_sim.proofs.Waiting.{leads_granted}
use Rattle.train_sim.proofs.playing.move_next.Goals as goal

pub grant-requires-clause-low : goal.grant-requires-clause-low
grant-requires-clause-low g c =
    let keeps = c.step_time-takes.ensures.keeps in
    let low : slice_index c.args.watch.now.due c.args.train ≤ 4064000 =
    low_due _ _ _ _ c.args.train keeps.are (keeps_stands _ _ _ keeps) c.requires.formed c.requires.kept c.requires.next.move.train in
    omega arith

pub grant-requires-clause-room : goal.grant-requires-clause-room
grant-requires-clause-room g c =
    let run = c.args.run.now in
    let moved = c.move_train.ensures in
    room_granted run.tables run.yard c.args.watch.now run.lines c.move_train.new.run.lines (move_line run.tables run.yard c.args.train) c.requires.kept moved.adds moved.few

pub returns-clause-leads : goal.returns-clause-leads
returns-clause-leads g c =
    let run = c.args.run.now in
    let new = c.move_train.new.run in
    let moved = c.move_train.ensures in
    let keeps = c.step_time-takes.ensures.keeps in
    leads_granted run.tables c.args.times.now run.yard new.yard c.args.watch.now c.grant.new.self run.lines new.lines c.args.train c.step_time-takes.result
    c.requires.formed c.requires.undue
    (same_trains run.tables run.yard c.args.watch.now run.lines keeps.are (keeps_stands _ _ _ keeps) c.requires.kept) c.requires.next c.step_time-takes.ensures.takes c.grant.ensures moved.moved moved.adds

pub returns-clause-kept : goal.returns-clause-kept
returns-clause-kept g c =
    let run = c.args.run.now in
    let new = c.move_train.new.run in
    let moved = c.move_train.ensures in
    let keeps = c.step_time-takes.ensures.keeps in
    let i = c.args.train in
    let within : i < length c.args.watch.now.due = omega (arith, same_trains run.tables run.yard c.args.watch.now run.lines keeps.are (keeps_stands _ _ _ keeps) c.requires.kept, c.requires.next.move.train) in
    subst (λ (ts : List Offer). IsTimedSoFar ts new.yard c.grant.new.self new.lines) (sym moved.tables)
    (subst (λ (y : Yard). IsTimedSoFar run.tables y c.grant.new.self new.lines) (sym moved.moved)
    (kept_granted run.tables run.yard c.args.watch.now c.grant.new.self run.lines new.lines (move_line run.tables run.yard i) i c.step_time-takes.result c.requires.kept within c.grant.ensures
    c.step_time-takes.ensures.short moved.adds))
