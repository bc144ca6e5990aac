use Rattle.std.proofs.Common.{arith}
use Rattle.state_boxes.proofs.Tight.{known_row}
use Rattle.state_boxes.proofs.rises.is_full_at.Goals as goal

pub at-here-requires-clause-place : goal.at-here-requires-clause-place
at-here-requires-clause-place c = omega (arith, c.last_of.ensures.last, c.if-known-last_of.false, (c.requires.rises.1 c.args.train c.requires.train).0)

pub is_tight_at-requires-clause-known : goal.is_tight_at-requires-clause-known
is_tight_at-requires-clause-known c =
    (known_row c.args.table.now c.args.rises.now c.args.train c.args.known.place c.at-here.result.now c.requires.rises c.requires.train
    (omega (arith, c.last_of.ensures.last, c.if-known-last_of.false)) c.at-here.ensures).1
