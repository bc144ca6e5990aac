use Rattle.std.proofs.Common.{arith}
use Rattle.std.proofs.lemmas.List.Sums.{count_by-le-length}
use Rattle.live_answers.specs.Rows.{is_arrived, is_may, waits}
use Rattle.live_answers.proofs.rows.could_of.Goals as goal

pub overflow_cast-may : goal.overflow_cast-may
overflow_cast-may c = omega (arith, count_by-le-length is_may c.args.tolds.now, c.may_of-may.ensures, c.requires)

pub overflow_cast-wait : goal.overflow_cast-wait
overflow_cast-wait c = omega (arith, count_by-le-length waits c.args.tolds.now, c.waiting_of-wait.ensures, c.requires)

pub overflow_cast-arrived : goal.overflow_cast-arrived
overflow_cast-arrived c = omega
    (arith, count_by-le-length is_arrived c.args.tolds.now, c.arrived_of-arrived.ensures, c.requires)
