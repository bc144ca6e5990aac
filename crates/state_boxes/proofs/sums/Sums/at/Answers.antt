use Rattle.std.proofs.Common.{rules, ◌≡◌, ◌∙◌, length, pos, refl, to_z, of_z, w16, w32, arith}
use Rattle.std.proofs.lemmas.List.{get_or_read_under}
use Rattle.state_boxes.specs.Sums.{no_sum}
use Rattle.state_boxes.proofs.Halved.{least_many, greatest_many, item_is}
use Rattle.state_boxes.proofs.sums.Sums.at.Goals as goal

pub index-requires : goal.index-requires
index-requires c = omega (arith, c.requires, c.self.inside.least.ok, least_many _ no_sum _ _ _ c.self.view_is c.self.invariant)

pub index-requires-2 : goal.index-requires-2
index-requires-2 c = omega (arith, c.requires, c.self.inside.greatest.ok, greatest_many _ no_sum _ _ _ c.self.view_is c.self.invariant)

pub returns : goal.returns
returns c =
    let s = c.args.section in
    let low = least_many _ no_sum _ _ _ c.self.view_is c.self.invariant in
    let high = greatest_many _ no_sum _ _ _ c.self.view_is c.self.invariant in
    let at_least = get_or_read_under c.self.inside.least.items s (length c.self.inside.least.items) _ (pos 0) c.index.ensures (omega (arith, c.requires, low)) refl in
    let at_greatest = get_or_read_under c.self.inside.greatest.items s (length c.self.inside.greatest.items) _ (pos 0) c.index-2.ensures (omega (arith, c.requires, high)) refl in
    let in_least : to_z w16 (of_z w16 c.index.result.now) ≡ c.index.result.now = search rules in
    let in_greatest : to_z w16 (of_z w16 c.index-2.result.now) ≡ c.index-2.result.now = search rules in
    let least : to_z w32 (of_z w32 c.from.result) ≡ c.from.result = search rules in
    let greatest : to_z w32 (of_z w32 c.from-2.result) ≡ c.from-2.result = search rules in
    (λ i. record {
      least = (least ∙ c.from.ensures ∙ in_least ∙ at_least) i;
      greatest = (greatest ∙ c.from-2.ensures ∙ in_greatest ∙ at_greatest) i;
    })
    ∙ item_is _ no_sum _ _ _ c.self.view_is c.self.invariant s c.requires
