use Rattle.std.proofs.Common.{◌∙◌, arith}
use Rattle.state_boxes.specs.Extremes.{joined}
use Rattle.state_boxes.proofs.Halved.{front_many, joined_is}
use Rattle.state_boxes.proofs.share_rows.SpanRow.at.Goals as goal

pub at-requires : goal.at-requires
at-requires c = omega (arith, c.requires, front_many _ _ _ c.self.view_is c.self.invariant)

pub at-requires-2 : goal.at-requires-2
at-requires-2 c = omega (arith, c.requires, c.self.invariant, front_many _ _ _ c.self.view_is c.self.invariant)

pub returns : goal.returns
returns c =
    c.joined.ensures ∙ (λ i. joined (c.at.ensures i) (c.at-2.ensures i)) ∙ joined_is _ _ _ c.self.view_is c.self.invariant c.args.section c.requires
