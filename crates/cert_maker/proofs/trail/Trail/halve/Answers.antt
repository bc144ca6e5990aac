use Rattle.cert_maker.proofs.Common.{◌≡◌, ◌+◌, ◌∷◌, Bool, true, false, List, get_or, reverse, rules, sym, ◌∙◌, ap, subst, Split, left_half, right_half}
use Rattle.cert_maker.specs.Draft.{IsHere, IsOnTrail, Trail}
use Rattle.cert_maker.proofs.Forks.{pushed}
use Rattle.cert_maker.proofs.Pieces.{halves_here, trail_at}
use Rattle.cert_maker.proofs.trail.Trail.halve.Goals as goal

pub returns-in_ok-push-in-Some : goal.returns-in_ok-push-in-Some
returns-in_ok-push-in-Some c =
    let nodes = c.args.nodes.now in
    let i = c.args.train in
    let m = c.args.place in
    let at = c.self.inside.at in
    let old = c.self.inside.follows.items in
    let here = subst (IsHere nodes) (sym c.self.view_is) c.in-Some.ensures.here in
    let node : get_or nodes at (Split 0 0) ≡ Split i m =
    subst (λ (t : Trail). get_or nodes t.at (Split 0 0) ≡ Split i m) (sym c.self.view_is) (sym c.in-Some.ensures.node ∙ (search rules)) in
    λ T B S on.
    subst (λ (f : List Bool). IsOnTrail T nodes (trail_at (at + 1) f) (left_half B i m ∷ right_half B i m ∷ S)) (sym (pushed old _ true c.in_ok-push-in-Some.ensures.items))
    (halves_here T nodes at B S i m (reverse old) here node (subst (λ (t : Trail). IsOnTrail T nodes t (B ∷ S)) (sym c.self.view_is) on))

pub returns-in_ok-push-in_default-2 : goal.returns-in_ok-push-in_default-2
returns-in_ok-push-in_default-2 c =
    let nodes = c.args.nodes.now in
    let i = c.args.train in
    let m = c.args.place in
    let old = c.self-in_default.inside.follows.items in
    let follows = pushed _ _ false c.in_ok-push-in_default-2.ensures.items ∙ ap (λ (f : List Bool). false ∷ f) (pushed old _ false c.in_ok-push-in_default.ensures.items) in
    λ T B S on.
    subst (λ (f : List Bool). IsOnTrail T nodes (trail_at c.self-in_default.inside.at f) (left_half B i m ∷ right_half B i m ∷ S)) (sym follows)
    (subst (λ (t : Trail). IsOnTrail T nodes t S) (sym c.self-in_default.view_is) (c.pass.ensures T B S on))
