use Rattle.std.proofs.Common.{◌<◌, arith, subst}
use Rattle.std.specs.Prelude.{All}
use Rattle.std.proofs.lemmas.List.{take_all}
use Rattle.std.proofs.lemmas.List.Elements.{All-more}
use Rattle.ring_sections.proofs.standing.above_points.Goals as goal

pub loop-point-preserved : goal.loop-point-preserved
loop-point-preserved c = record {
  least = omega arith;
  points = All-more (λ q. q < c.max-bound.result) c.args.points.now c.loop-point.point-index 0 (omega arith)
      (λ k d l. omega (arith, c.loop-point.invariant.points k d l)) (omega arith);
  most = let low = c.requires.points c.loop-point.point-index 0 (omega arith) in omega (arith, low);
}

pub returns-clause-points : goal.returns-clause-points
returns-clause-points c = subst (All (λ q. q < c.loop-point.bound)) (take_all c.loop-point.point-index c.args.points.now (omega arith)) c.loop-point.invariant.points
