use Rattle.std.proofs.Common.{◌*◌, ◌+◌, ◌∙◌, set, true, arith}
use Rattle.std.proofs.lemmas.List.{length-set}
use Rattle.mission_table.proofs.Marks.{AreInside, places_inside, link_marked}
use Rattle.mission_table.proofs.tracks.Tracks.new.Goals.{After-second-second}
use Rattle.mission_table.proofs.tracks.Tracks.new.Goals as goal

-- the two places of the link
places : (c : After-second-second) → AreInside c.points_of-points.result c.first-first.result c.second-second.result
places c =
    places_inside c.args.layout.now c.points_of-points.ensures.formed c.links-link-items.result.now c.links-link-items.ensures.links
    c.loop-link.link-index c.link-item.result c.loop-link-test.true c.link-item.is
    c.points_of-points.result c.first-first.result c.second-second.result c.points_of-points.ensures.count c.first-first.ensures c.second-second.ensures

pub index_mut-requires : goal.index_mut-requires
index_mut-requires c =
    let places = places (goal.at.index_mut-requires c).After-second-second in
    omega (arith, places.0, c.loop-link.invariant.0, c.loop-link.marks.ok.0)

pub index_mut-requires-in-loop-link : goal.index_mut-requires-in-loop-link
index_mut-requires-in-loop-link c =
    let places = places (goal.at.index_mut-requires-in-loop-link c).After-second-second in
    omega (arith, places.1, c.loop-link.invariant.0, c.loop-link.marks.ok.0)

pub loop-link-preserved : goal.loop-link-preserved
loop-link-preserved c =
    let n = c.points_of-points.result in
    let there = c.first-first.result * n + c.second-second.result in
    let marks = c.loop-link.marks.items in (
      length-set (set marks there true) (c.second-second.result * n + c.first-first.result) true ∙ length-set marks there true ∙ c.loop-link.invariant.0,
      λ a b inside. link_marked c.args.layout.now c.points_of-points.ensures.formed c.links-link-items.result.now c.links-link-items.ensures.links
          c.loop-link.link-index c.link-item.result c.loop-link-test.true c.link-item.is
          n c.first-first.result c.second-second.result c.points_of-points.ensures.count c.first-first.ensures c.second-second.ensures
          marks a b c.loop-link.invariant.0 inside (c.loop-link.invariant.1 a b inside),
    )
