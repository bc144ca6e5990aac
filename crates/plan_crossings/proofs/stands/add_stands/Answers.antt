use Rattle.std.proofs.Common.{◌≡◌, List, Bool, true, subst, below_more}
use Rattle.plan_crossings.specs.Stands.{is_known}
use Rattle.plan_crossings.proofs.stands.add_stands.Goals as goal

pub loop-place-preserved : goal.loop-place-preserved
loop-place-preserved c = record {
  added = below_more _ _ (λ k l. c.in_ok-add_stand.ensures.kept _ (c.loop-place.invariant.added k l))
      (subst (λ (s : List Bool). is_known c.add_stand.new.stands.items s ≡ true) c.in_ok-at.ensures c.in_ok-add_stand.ensures.added);
  kept = λ s known. c.in_ok-add_stand.ensures.kept s (c.loop-place.invariant.kept s known);
}
