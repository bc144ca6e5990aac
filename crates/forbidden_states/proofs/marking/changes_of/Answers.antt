use Rattle.std.proofs.Common.{◌≡◌, ◌∙◌, ◌∷◌, [], List, ℤ, length, length-append, ap, arith, rules, to_z, of_z, w32}
use Rattle.forbidden_states.specs.Forbid.{change_at}
use Rattle.forbidden_states.proofs.Growing.{next_listed}
use Rattle.forbidden_states.proofs.marking.changes_of.Goals as goal

pub loop-place-preserved : goal.loop-place-preserved
loop-place-preserved c =
    let kept : to_z w32 (of_z w32 c.change_at.result) ≡ c.change_at.result = search rules in
    record {
      room = omega (arith, c.push_reserved.ensures.capacity, c.loop-place.invariant.room);
      many = omega (arith, ap (λ (v : List ℤ). length v) c.push_reserved.ensures.items, length-append c.loop-place.changes.items (to_z w32 (of_z w32 c.change_at.result) ∷ []), c.loop-place.invariant.many);
      listed = next_listed (change_at c.args.stay.now) c.loop-place.place c.loop-place.changes.items c.push_reserved.new.self.items (to_z w32 (of_z w32 c.change_at.result))
          c.loop-place.invariant.listed c.push_reserved.ensures.items (kept ∙ c.change_at.ensures);
    }
