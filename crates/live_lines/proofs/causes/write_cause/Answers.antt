use Rattle.std.proofs.Common.{◌++◌, append_assoc, sym}
use Rattle.std.specs.Prelude.{codes, decimal}
use Rattle.live_lines.proofs.causes.write_cause.Goals as goal

pub returns-in-Occupied : goal.returns-in-Occupied
returns-in-Occupied c = rw (c.in-Occupied.is, sym c.train-by.ensures) c.write.ensures.bytes

pub returns-in-Connection : goal.returns-in-Connection
returns-in-Connection c =
    let number = decimal c.in-Connection.connection in
    let by = c.train-by-in-Connection.result.now in
    let reached = decimal c.in-Connection.reached in
    rw (
      c.in-Connection.is,
      sym c.train-by-in-Connection.ensures,
      append_assoc (number ++ codes " by=" ++ by) (codes " reached=") reached,
      append_assoc (number ++ codes " by=") by (codes " reached=" ++ reached),
      append_assoc number (codes " by=") (by ++ (codes " reached=" ++ reached)),
    )
    c.write-in-Connection.ensures.bytes

pub returns-in-Leaving : goal.returns-in-Leaving
returns-in-Leaving c = rw (c.in-Leaving.is, sym c.train-by-in-Leaving.ensures) c.write-in-Leaving.ensures.bytes
