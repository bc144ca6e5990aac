use Rattle.std.proofs.Common.{arith}
use Rattle.state_boxes.proofs.Halved.{list_many, halves_joined}
use Rattle.state_boxes.proofs.share_rows.Cells.joined.Goals as goal

pub bounds-requires : goal.bounds-requires
bounds-requires c = omega (arith, c.requires, list_many _ _ _ c.first.view_is c.first.invariant, list_many _ _ _ c.second.view_is c.second.invariant)

pub bounds-requires-2 : goal.bounds-requires-2
bounds-requires-2 c = omega (arith, c.requires, c.first.invariant, list_many _ _ _ c.first.view_is c.first.invariant, c.second.invariant, list_many _ _ _ c.second.view_is c.second.invariant)

pub returns : goal.returns
returns c =
    halves_joined _ _ _ _ _ _ _ _ c.first.view_is c.second.view_is c.first.invariant c.second.invariant c.requires c.in_ok-least.ensures c.in_ok-greatest.ensures
