use Rattle.zone_machine.proofs.Prelude.{◌≡◌, ℕ, get_or, Option, Ok, Err, refl, sym, ◌∙◌, subst, suc, ◌+◌, ◌<◌, List, length, drop, Some, ap, arith, Step, Board, NotAllowed, Setup, World, step_of, Seen}
use Rattle.std.proofs.Common.{drop-cons, Result}
use Rattle.zone_machine.specs.Calls.{Weaves, Steps}
use Rattle.zone_machine.proofs.machine.Core.weave.Goals as goal
use Rattle.zone_machine.specs.Weave.{go_on, weave_from}

-- what a step says that was made
made_as : (r : Result (Seen × World) NotAllowed) (before after : World) (seen : Seen) → Steps r before (Ok seen) after → r ≡ Ok (seen, after)
made_as (Ok (s, v)) before after seen h = λ i. Ok (sym h.0 i, sym h.1 i)
made_as (Err e) before after seen h = absurd h

-- what a step says that isn't allowed
refused_as : (r : Result (Seen × World) NotAllowed) (before after : World) (cause : NotAllowed) → Steps r before (Err cause) after → (r ≡ Err cause) × (after ≡ before)
refused_as (Ok (s, v)) before after cause h = absurd h
refused_as (Err e) before after cause h = (ap Err (sym h.0), h.1)

-- a step that is made leads on
weave_on : (S : Setup) (steps : List (ℕ × Step)) (k : ℕ) (d : ℕ × Step) (w v : World) (seen : Seen) → k < length steps
    → step_of S (get_or steps k d).0 w (get_or steps k d).1 ≡ Ok (seen, v) → weave_from S k (drop k steps) w ≡ weave_from S (k + 1) (drop (k + 1) steps) v
weave_on S steps k d w v seen lt made =
    let one : suc k ≡ k + 1 = omega arith in
    ap (λ xs. weave_from S k xs w) (drop-cons steps k d lt)
    ∙ (ap (λ r. go_on k w r (weave_from S (suc k) (drop (suc k) steps))) made ∙ ap (λ n. weave_from S n (drop n steps) v) one)

-- a step that isn't allowed ends them
weave_ends : (S : Setup) (steps : List (ℕ × Step)) (k : ℕ) (d : ℕ × Step) (w : World) (cause : NotAllowed) → k < length steps
    → step_of S (get_or steps k d).0 w (get_or steps k d).1 ≡ Err cause → weave_from S k (drop k steps) w ≡ (w, Some (k, cause))
weave_ends S steps k d w cause lt refused =
    ap (λ xs. weave_from S k xs w) (drop-cons steps k d lt) ∙ ap (λ r. go_on k w r (weave_from S (suc k) (drop (suc k) steps))) refused

pub loop-place-preserved : goal.loop-place-preserved
loop-place-preserved g c =
    let steps = c.args.steps.now in
    let k = c.loop-place.place in
    let w = c.loop-place.self.world in
    let v = c.step.new.self.world in
    let seen = c.in_default.field-0 in
    let x : ℕ × Step = get_or steps k (0, Board) in
    let made = made_as (step_of c.loop-place.self.setup x.0 w x.1) w v seen c.in_default.ensures.steps in
    let made_here = subst (λ (S : Setup). step_of S x.0 w x.1 ≡ Ok (seen, v)) c.loop-place.invariant.setup made in
    record {
      sound = c.step.ensures.sound;
      setup = c.step.ensures.setup ∙ c.loop-place.invariant.setup;
      weaves = c.loop-place.invariant.weaves ∙ weave_on c.args.self.now.setup steps k (0, Board) w v seen c.loop-place-test.true made_here;
    }

pub returns-in-Err-clause-weaves : goal.returns-in-Err-clause-weaves
returns-in-Err-clause-weaves g c =
    let steps = c.args.steps.now in
    let k = c.loop-place.place in
    let w = c.loop-place.self.world in
    let v = c.step.new.self.world in
    let x : ℕ × Step = get_or steps k (0, Board) in
    let ended = refused_as (step_of c.loop-place.self.setup x.0 w x.1) w v c.in-Err.cause c.in-Err.ensures.steps in
    let ended_here = subst (λ (S : Setup). step_of S x.0 w x.1 ≡ Err c.in-Err.cause) c.loop-place.invariant.setup ended.0 in
    let all = c.loop-place.invariant.weaves ∙ weave_ends c.args.self.now.setup steps k (0, Board) w c.in-Err.cause c.loop-place-test.true ended_here in
    subst (λ (r : World × Option (ℕ × NotAllowed)). Weaves r (Err (k, c.in-Err.cause)) v) (sym all) (refl, ended.1)
