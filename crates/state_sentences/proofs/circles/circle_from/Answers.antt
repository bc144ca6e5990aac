use Rattle.std.proofs.Common.{◌∙◌, ◌++◌, ◌∷◌, [], List, ℕ, refl, sym, ap, subst, arith, ◌+◌}
use Rattle.std.specs.Prelude.{Some, None}
use Rattle.state_sentences.specs.Circle.{IsCircleFrom}
use Rattle.state_sentences.proofs.Walks.{IsWalk, walk_goes, walk_closes, no_short_circle, no_circle_at_end, walk_end}
use Rattle.state_sentences.proofs.circles.circle_from.Goals as goal

pub returns-in-None : goal.returns-in-None
returns-in-None c = λ later circle.
    let scene = c.args.scene.now in
    let path = c.loop.circle.items ++ c.loop.train ∷ [] in
    no_circle_at_end scene.table.now scene.state.now (c.args.first ∷ later) c.args.first c.loop.counter path circle refl c.loop.invariant
    (walk_end scene.table.now scene.state.now c.args.first c.loop.counter c.loop.circle.items c.loop.train None c.loop.invariant (sym c.in-None.ensures.waits))

pub returns-then-next-first : goal.returns-then-next-first
returns-then-next-first c =
    let scene = c.args.scene.now in
    let path = c.loop.circle.items ++ c.loop.train ∷ [] in
    let step = walk_end scene.table.now scene.state.now c.args.first c.loop.counter c.loop.circle.items c.loop.train (Some c.in-Some.next) c.loop.invariant
    (sym c.in-Some.ensures.waits) in
    subst (IsCircleFrom scene.table.now scene.state.now c.args.first) (sym c.in_ok-push.ensures.items)
    (walk_closes scene.table.now scene.state.now c.args.first c.loop.counter path c.loop.invariant (omega arith) (step ∙ ap Some c.if-next-first.true))

pub loop-preserved : goal.loop-preserved
loop-preserved c =
    let scene = c.args.scene.now in
    let path = c.loop.circle.items ++ c.loop.train ∷ [] in
    let step = walk_end scene.table.now scene.state.now c.args.first c.loop.counter c.loop.circle.items c.loop.train (Some c.in-Some.next) c.loop.invariant
    (sym c.in-Some.ensures.waits) in
    subst (λ (w : List ℕ). IsWalk scene.table.now scene.state.now c.args.first (c.loop.counter + 1) (w ++ c.in-Some.next ∷ [])) (sym c.in_ok-push.ensures.items)
    (walk_goes scene.table.now scene.state.now c.args.first c.loop.counter c.in-Some.next path c.loop.invariant step c.in-Some.ensures.within c.if-next-first.false)

pub returns : goal.returns
returns c = λ later circle.
    let scene = c.args.scene.now in
    no_short_circle scene.table.now scene.state.now (c.args.first ∷ later) c.args.first c.loop.counter (c.loop.circle.items ++ c.loop.train ∷ [])
    circle refl c.loop.invariant (omega (arith, circle.few))
