use Rattle.std.proofs.Common.{◌<◌, [], false, List, ℕ, ap, ◌∙◌, sym, subst, arith}
use Rattle.std.specs.Prelude.{All}
use Rattle.std.proofs.lemmas.List.{take_all}
use Rattle.std.proofs.lemmas.Option.{slice_get-get_or}
use Rattle.rail_model.specs.Table.{Mission}
use Rattle.ring_sections.specs.Search.{ArePointsBelow}
use Rattle.ring_sections.proofs.PointBounds.{points-more}
use Rattle.ring_sections.proofs.standing.size_of.Goals as goal

pub above_points-bound-requires-clause-points : goal.above_points-bound-requires-clause-points
above_points-bound-requires-clause-points c =
    subst (All (λ q. q < 512)) (sym (c.as_slice.ensures ∙ ap (λ (m : Mission). m.points) c.mission.ensures))
    (λ k d lt. (c.len-train-end.ensures.formed.each c.loop-train.train (omega arith)).low_points k _ (slice_get-get_or _ k d lt))

pub loop-train-preserved : goal.loop-train-preserved
loop-train-preserved c =
    let points : List ℕ → Type 0 = All (λ q. q < c.above_points-bound.result) in
    record {
      points = points-more c.args.missions.now c.loop-train.train c.loop-train.bound c.above_points-bound.result (record { points = []; exits = false })
          (omega arith) c.loop-train.invariant.points c.above_points-bound.ensures.least
          (subst points (c.as_slice.ensures ∙ ap (λ (m : Mission). m.points) c.mission.ensures) c.above_points-bound.ensures.points);
      most = c.above_points-bound.ensures.most;
    }

pub returns-clause-points : goal.returns-clause-points
returns-clause-points c =
    subst (λ (ms : List Mission). ArePointsBelow ms c.loop-train.bound)
    (take_all c.loop-train.train c.args.missions.now (omega arith))
    c.loop-train.invariant.points
