use Rattle.std.proofs.Common.{◌∙◌, ◌<◌, sym, ap, length, arith}
use Rattle.section_marks.proofs.Sequence.{lengths_stop}
use Rattle.section_marks.proofs.making.check_lengths.Goals as goal

pub returns-then-changes_of-places : goal.returns-then-changes_of-places
returns-then-changes_of-places c =
    let missions = c.args.missions.now in
    let i = c.loop-train.train in
    let within : i < length missions = omega (arith, c.loop-train-test.true, c.len-train-end.ensures.count) in
    sym (lengths_stop missions c.args.section c.args.changes.now i within
    (λ same. c.if-changes_of-places.true (ap length c.changes_of.ensures ∙ same ∙ sym c.places.ensures)) c.loop-train.invariant)
