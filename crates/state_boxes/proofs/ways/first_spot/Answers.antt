use Rattle.std.proofs.Common.{◌<◌, List, length, Option, sym, ◌∙◌, ap, subst}
use Rattle.std.specs.Prelude.{All, find, option_map}
use Rattle.rail_model.specs.Table.{trains}
use Rattle.rail_model.specs.Move.{IsFirstOrNone}
use Rattle.state_boxes.specs.declared.ways.Spot.{Spot}
use Rattle.state_boxes.specs.Ways.{is_rival, IsInWay}
use Rattle.state_boxes.proofs.InWay.{known_spots, ahead_first}
use Rattle.state_boxes.proofs.Own.{AreOrdered, ordered_spots}
use Rattle.state_boxes.proofs.ways.first_spot.Goals as goal

pub first_covered-requires-clause-known : goal.first_covered-requires-clause-known
first_covered-requires-clause-known c =
    let T = c.args.table.now in
    let q = c.in-Some.at in
    let e = sym c.point_of.ensures ∙ c.in-Some.is in
    let row = c.at.ensures ∙ c.requires.ways.each_point.1 q ((c.requires.ways.formed.missions c.args.train c.requires.train).low_points _ q e) in
    subst (λ (xs : List Spot). All (λ s. s.train < length c.args.ranges.now) xs) (sym row) (known_spots T q (length c.args.ranges.now) c.requires.boxed.one_each)

pub first_covered-requires-clause-ordered : goal.first_covered-requires-clause-ordered
first_covered-requires-clause-ordered c =
    let T = c.args.table.now in
    let q = c.in-Some.at in
    let e = sym c.point_of.ensures ∙ c.in-Some.is in
    let row = c.at.ensures ∙ c.requires.ways.each_point.1 q ((c.requires.ways.formed.missions c.args.train c.requires.train).low_points _ q e) in
    subst AreOrdered (sym row) (ordered_spots T q (trains T))

pub returns-in-Some : goal.returns-in-Some
returns-in-Some c =
    let T = c.args.table.now in
    let B = c.args.ranges.now in
    let i = c.args.train in
    let q = c.in-Some.at in
    let e = sym c.point_of.ensures ∙ c.in-Some.is in
    let row = c.at.ensures ∙ c.requires.ways.each_point.1 q ((c.requires.ways.formed.missions i c.requires.train).low_points _ q e) in
    subst (λ (o : Option Spot). IsFirstOrNone (IsInWay T B i c.args.place) (option_map (λ s. s.train) o))
    (sym (c.first_covered.ensures ∙ ap (λ (xs : List Spot). find (is_rival B i) xs) row)) (ahead_first T B i c.args.place q e)
