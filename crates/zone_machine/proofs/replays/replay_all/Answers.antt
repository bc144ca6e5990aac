use Rattle.zone_machine.proofs.Prelude.{◌++◌, map, Yes, Driver, Entry, after}
use Rattle.rail_model.specs.Lines.{journal_of}
use Rattle.zone_machine.proofs.Replaying.{next_replayed}
use Rattle.zone_machine.proofs.replays.replay_all.Goals as goal

pub loop-entry-preserved : goal.loop-entry-preserved
loop-entry-preserved g c =
    let tables = map g.A.HasTable.offer c.args.tables.now in
    let e : Entry = record { who = 0; reply = Driver Yes } in
    next_replayed tables c.requires.are (after c.args.yard.now c.args.history.now) (c.args.lines.now.items ++ journal_of tables c.args.yard.now c.args.history.now)
    c.args.history.now c.loop-entry.entry-index e c.loop-entry-test.true _ _ _ _ c.loop-entry.invariant c.in_ok-replay.ensures.after c.in_ok-replay.ensures.adds
