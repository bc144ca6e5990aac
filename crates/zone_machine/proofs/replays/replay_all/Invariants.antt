use Rattle.zone_machine.proofs.Prelude.{◌++◌, drop, map, after}
use Rattle.rail_model.specs.Lines.{journal_of}
use Rattle.zone_machine.proofs.Replaying.{Replayed}
use Rattle.zone_machine.proofs.replays.replay_all.Given as goal

abbrev pub invariant-loop-entry : goal.invariant-loop-entry
invariant-loop-entry g l =
    let tables = map g.A.HasTable.offer l.tables in
    Replayed tables (drop l.entry-index l.history) l.yard l.lines.items (after l.initial.yard l.history) (l.initial.lines.items ++ journal_of tables l.initial.yard l.history)
