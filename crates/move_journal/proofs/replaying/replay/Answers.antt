use Rattle.std.proofs.Common.{◌+◌, ◌<◌, length, map, None, Err, refl, sym, subst, arith}
use Rattle.std.proofs.lemmas.Result.{err_from_is_err_and}
use Rattle.rail_model.specs.declared.types.Line.TheVariants.{Move}
use Rattle.rail_model.specs.Yard.{opening}
use Rattle.move_journal.specs.declared.faults.BadLine.{BadLine}
use Rattle.move_journal.specs.Replays.{HasBadLine, Replays}
use Rattle.move_journal.proofs.Outcomes.{bad_at, replays_err, right_more}
use Rattle.move_journal.proofs.replaying.replay.Goals as goal

pub returns-in_err-replay_line-clause-replays : goal.returns-in_err-replay_line-clause-replays
returns-in_err-replay_line-clause-replays g c =
    let tables = map g.A.HasTable.offer c.args.tables.now in
    let start = opening c.args.start.now in
    let e = c.in_err-replay_line.field-0.0 in
    let within : c.loop-index.index < length c.lines-all.result.now = omega arith in
    let h = bad_at tables start c.lines-all.result.now c.loop-index.index (c.loop-index.index + 1) c.loop-index.yard (Move 0 0 None) e within
    c.loop-index.invariant.right c.loop-index.invariant.reached refl c.in_err-replay_line.ensures.bad in
    let got = err_from_is_err_and c.from_residual-in_err-replay_line.result c.from_residual-in_err-replay_line.ensures.1 in
    subst (Replays tables start c.args.journal.now) (sym got.1)
    (subst (λ (f : BadLine). Replays tables start c.args.journal.now (Err f)) (sym got.2)
    (replays_err tables start c.args.journal.now e (subst (λ ls. HasBadLine tables start ls e) c.lines-all.ensures h)))

pub loop-index-preserved : goal.loop-index-preserved
loop-index-preserved g c =
    let tables = map g.A.HasTable.offer c.args.tables.now in
    let within : c.loop-index.index < length c.lines-all.result.now = omega arith in
    let p = right_more tables (opening c.args.start.now) c.loop-index.yard c.replay_line.new.yard c.lines-all.result.now c.loop-index.index (Move 0 0 None) within
    c.loop-index.invariant.right c.loop-index.invariant.reached c.in_ok-replay_line.ensures.right.0 c.in_ok-replay_line.ensures.right.1 in
    record {
      stands = c.replay_line.ensures.stands;
      right = p.0;
      reached = p.1;
    }
