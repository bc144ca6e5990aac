use Rattle.std.proofs.Common.{◌<◌, ℕ, List, length, ap, subst, sym, arith}
use Rattle.live_yard.specs.Wants.{AreWants, HasWant, Queue}
use Rattle.live_yard.proofs.Standing.{few_others, wants-append}
use Rattle.live_yard.proofs.queue.WantQueue.stand.Goals as goal

pub push_reserved-requires : goal.push_reserved-requires
push_reserved-requires c =
    let wants = c.self.inside.wants.items in
    let none : HasWant wants c.args.train → ⊥ =
    subst (λ (ws : List ℕ). HasWant ws c.args.train → ⊥) c.deref.ensures.value c.in-None.ensures in
    let within : c.args.train < c.self.inside.trains =
    omega (arith, ap (λ (q : Queue). q.trains) c.self.view_is, c.requires) in
    let few = few_others c.self.inside.trains wants c.args.train within none c.self.invariant.0 in
    omega (arith, few, c.self.invariant.1, c.deref.ensures.len, ap (λ (ws : List ℕ). length ws) c.deref.ensures.value)

pub invariant_of-self : goal.invariant_of-self
invariant_of-self c =
    let wants = c.self.inside.wants.items in
    let none : HasWant wants c.args.train → ⊥ =
    subst (λ (ws : List ℕ). HasWant ws c.args.train → ⊥) c.deref.ensures.value c.in-None.ensures in
    let within : c.args.train < c.self.inside.trains =
    omega (arith, ap (λ (q : Queue). q.trains) c.self.view_is, c.requires) in (
      subst (AreWants c.self.inside.trains) (sym c.push_reserved.ensures.items)
          (wants-append c.self.inside.trains wants c.args.train within none c.self.invariant.0),
      omega (arith, c.push_reserved.ensures.capacity, c.self.invariant.1),
    )
