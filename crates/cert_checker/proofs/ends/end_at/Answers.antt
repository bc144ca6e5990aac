use Rattle.std.proofs.Common.{[], ◌+◌, arith}
use Rattle.std.specs.Prelude.{slice_index}
use Rattle.cert_checker.proofs.ends.end_at.Goals as goal

pub returns-in-Split-clause-within : goal.returns-in-Split-clause-within
returns-in-Split-clause-within c =
    let next = c.args.index + 1 in
    let middle = c.requires.later.each next (omega arith) (omega (arith, c.requires.index)) in
    (c.requires.later.each (slice_index c.args.ends.now next) (omega (arith, (middle.0 [] []).1)) middle.1).1
