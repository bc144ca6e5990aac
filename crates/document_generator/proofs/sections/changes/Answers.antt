use Rattle.std.proofs.Common.{◌≡◌, ◌∙◌, rules, to_z, of_z, w32}
use Rattle.document_generator.specs.Pieces.{change_in}
use Rattle.document_generator.proofs.Loops.{listed_next}
use Rattle.document_generator.proofs.sections.changes.Goals as goal

pub loop-place-preserved : goal.loop-place-preserved
loop-place-preserved c =
    let kept : to_z w32 (of_z w32 c.change_in.result) ≡ c.change_in.result = search rules in
    listed_next (change_in c.args.own.now c.args.pair.now) c.loop-place.place c.loop-place.found.items c.push.new.self.items
    (to_z w32 (of_z w32 c.change_in.result)) c.loop-place.invariant (kept ∙ c.change_in.ensures) c.in_ok-push.ensures.items
