use Rattle.std.proofs.Common.{◌≡◌, ℕ, List, map, ap, ◌∙◌, subst, sym, arith}
use Rattle.std.specs.Prelude.{filter}
use Rattle.rail_model.specs.Checks.{below}
use Rattle.rail_model.specs.Table.{trains, place}
use Rattle.rail_model.specs.Certificate.{Range}
use Rattle.forbidden_states.specs.Forbid.{Stay}
use Rattle.state_core.specs.Core.{has}
use Rattle.state_core.specs.Guard.{IsGuard, stay_at}
use Rattle.state_core.proofs.Listing.{passed-next, skipped-next}
use Rattle.state_core.proofs.Stays.{cores_are_guards}
use Rattle.state_core.proofs.guards.stays_of.Goals as goal
use Rattle.state_core.proofs.guards.stays_of.Goals.{then-has+in_ok-push, else-has}

-- a stay of one place
at_place : (i k : ℕ) (p : List ℕ) (range : Range) (s : Stay) → k ≡ place p i → range ≡ record { lo = k; hi = k } →
    s ≡ record { train = i; range = range } → s ≡ stay_at p i
at_place i k p range s here one made =
    let there : range ≡ record { lo = place p i; hi = place p i } = one ∙ (λ d. record { lo = here d; hi = here d }) in
    made ∙ (λ d. record { train = i; range = there d })

pub loop-train-preserved : goal.loop-train-preserved
loop-train-preserved c =
    let p = c.args.state.now in
    let group = c.args.group.now in
    let n = c.loop-train.train in
    elim c.if-has.branch [
      | then-has+in_ok-push w ↦
          passed-next (stay_at p) (has group) n _ _ w.new-then-has.result c.loop-train.invariant (sym c.has.ensures
          ∙ w.if-has.true)
          (ap (λ v. v.items) w.stays-is ∙ w.in_ok-push.ensures.items)
          (at_place n w.place-place.result p w.new.result w.new-then-has.result w.place-place.ensures w.new.ensures
          w.new-then-has.ensures)
      | else-has w ↦ skipped-next (stay_at p) (has group) n _ (ap (λ v. v.items) w.stays-is ∙ c.loop-train.invariant)
          (sym c.has.ensures ∙ w.if-has.false)
    ]

pub returns-clause-guard : goal.returns-clause-guard
returns-clause-guard c =
    let T = c.args.table.now in
    let p = c.args.state.now in
    let group = c.args.group.now in
    let end : c.loop-train.train ≡ trains T =
    omega (arith, c.loop-train-test.false, c.loop-train.auto.train-end, c.trains_of-train-end.ensures.count) in
    subst (IsGuard T) (sym (c.from.ensures ∙ c.loop-train.invariant
    ∙ ap (λ n. map (stay_at p) (filter (has group) (below n))) end))
    (cores_are_guards T p group c.trains_of-train-end.ensures.formed c.requires.core)
