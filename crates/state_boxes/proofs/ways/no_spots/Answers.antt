use Rattle.std.proofs.Common.{◌≡◌, ℕ, ◌+◌, List, [], sym, subst, arith}
use Rattle.state_boxes.specs.declared.ways.Spot.{Spot}
use Rattle.state_boxes.specs.Each.{IsEach}
use Rattle.state_boxes.proofs.Each.{each_push}
use Rattle.state_boxes.proofs.ways.no_spots.Goals as goal

pub loop-point-preserved : goal.loop-point-preserved
loop-point-preserved c =
    subst (IsEach (λ _ (row : List Spot). row ≡ []) (c.loop-point._point + 1) []) (sym c.in_ok-push.ensures.items)
    (each_push (λ _ (row : List Spot). row ≡ []) c.loop-point._point [] c.loop-point.points.items _ c.loop-point.invariant c.new.ensures.items)

pub returns : goal.returns
returns c =
    let end : c.loop-point._point ≡ 512 = omega arith in
    subst (λ (n : ℕ). IsEach (λ _ (row : List Spot). row ≡ []) n [] c.loop-point.points.items) end c.loop-point.invariant
