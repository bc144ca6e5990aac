use Rattle.std.proofs.Common.{refl}
use Rattle.forbidden_states.proofs.Growing.{next_behind}
use Rattle.ring_sections.proofs.standing.add_pairs.Goals as goal

pub loop-place-preserved : goal.loop-place-preserved
loop-place-preserved c =
    next_behind (λ k. (c.args.train, k)) c.loop-place.place c.args.pairs.now.items c.loop-place.pairs.items c.push.new.self.items _
    c.loop-place.invariant c.in_ok-push.ensures.items refl
