use Rattle.std.proofs.Common.{◌≡◌, ◌∙◌, rules, to_z, of_z, w32}
use Rattle.plan_document.specs.Shares.{change_at}
use Rattle.plan_document.proofs.Grown.{value_next}
use Rattle.plan_document.proofs.shares.changes.Goals as goal

pub loop-place-preserved : goal.loop-place-preserved
loop-place-preserved c =
    let kept : to_z w32 (of_z w32 c.change_at.result) ≡ c.change_at.result = search rules in
    value_next (change_at c.args.shares.now) c.loop-place.place c.loop-place.found.items c.push.new.self.items
    (to_z w32 (of_z w32 c.change_at.result)) c.loop-place.invariant (kept ∙ c.change_at.ensures) c.in_ok-push.ensures.items
