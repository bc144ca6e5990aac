use Rattle.std.proofs.Common.{◌≡◌, ℕ, List, [], ◌∷◌, ◌++◌, length, refl, sym, ap, subst, arith, length-append}
use Rattle.std.proofs.lemmas.List.Edits.{length-remove}
use Rattle.live_yard.specs.Firing.{DispatchState, Fires, IsNextWant, fired}
use Rattle.live_yard.proofs.Firing.{fires-more, next_can, sought_from-more}
use Rattle.live_yard.proofs.settling.settle.Goals as goal

pub loop-index-init : goal.loop-index-init
loop-index-init g c = record { trains = c.requires; within = omega arith; fires = ([], omega arith, refl, refl) }

pub loop-index-preserved : goal.loop-index-preserved
loop-index-preserved g c =
    let before = c.loop-index.invariant in
    let fires = before.fires in
    let index = c.in-Some.index in
    let wants = c.loop-index.queue.wants in
    let start : DispatchState = record { yard = c.args.yard.now; wants = c.args.queue.now.wants } in
    let now : DispatchState = record { yard = c.loop-index.yard; wants = wants } in
    let next : IsNextWant now c.loop-index.from index =
    subst (λ (ws : List ℕ). IsNextWant (record { yard = c.loop-index.yard; wants = ws }) c.loop-index.from index)
    c.as_slice.ensures.wants c.in-Some.ensures in
    let can = next_can now c.loop-index.from index next in
    let fewer = length-remove wants index can.0 in
    let left = ap (λ (ws : List ℕ). length ws) c.fire.ensures.wants in
    let there : (record { yard = c.fire.new.yard; wants = c.fire.new.queue.wants }) ≡ fired now index =
    λ i. record { yard = c.fire.ensures.yard i; wants = c.fire.ensures.wants i } in
    record {
      trains = c.fire.ensures.trains;
      within = omega (arith, fewer, left, can.0);
      fires = (
        fires.0 ++ index ∷ [],
        omega (arith, fires.1, length-append fires.0 (index ∷ []), fewer, left),
        sym (sought_from-more 0 fires.0 index),
        subst (Fires start 0 (fires.0 ++ index ∷ [])) (sym there)
            (fires-more start 0 fires.0 now index fires.3
            (subst (λ (from : ℕ). IsNextWant now from index) fires.2 next)),
      );
    }
