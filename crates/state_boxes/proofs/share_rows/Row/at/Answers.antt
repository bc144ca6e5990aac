use Rattle.std.proofs.Common.{rules, ◌≡◌, ◌∙◌, get_or, pos, to_z, of_z, w8, arith}
use Rattle.state_boxes.proofs.Halved.{list_many, cell_is}
use Rattle.state_boxes.proofs.share_rows.Row.at.Goals as goal

pub bounds-self-inside-section : goal.bounds-self-inside-section
bounds-self-inside-section c = omega (arith, c.requires, list_many _ _ _ c.self.view_is c.self.invariant)

pub bounds-self-inside-section-2 : goal.bounds-self-inside-section-2
bounds-self-inside-section-2 c = omega (arith, c.requires, c.self.invariant, list_many _ _ _ c.self.view_is c.self.invariant)

pub returns : goal.returns
returns c =
    let least : to_z w8 (of_z w8 (get_or c.self.inside.least.now c.args.section (pos 0))) ≡ get_or c.self.inside.least.now c.args.section (pos 0) = search rules in
    let greatest : to_z w8 (of_z w8 (get_or c.self.inside.greatest.now c.args.section (pos 0))) ≡ get_or c.self.inside.greatest.now c.args.section (pos 0) = search rules in
    (λ i. record { least = least i; greatest = greatest i }) ∙ cell_is _ _ _ c.self.view_is c.self.invariant c.args.section c.requires
