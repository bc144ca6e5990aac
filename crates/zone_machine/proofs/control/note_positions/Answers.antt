use Rattle.zone_machine.proofs.Prelude.{length, arith, Position, number_in}
use Rattle.std.proofs.lemmas.List.FromFn.{fill_by_all}
use Rattle.zone_machine.proofs.control.note_positions.Goals as goal

pub returns : goal.returns
returns c =
    fill_by_all (λ i. number_in c.args.known.now (Position i)) c.loop-train.positions (length c.args.positions.now) 0 c.loop-train.invariant.one_each
    (λ k lt. c.loop-train.invariant.written k (omega arith))
