use Rattle.std.proofs.Common.{◌≡◌, ◌<◌, ◌∙◌, ℤ, List, length, get_or, ap, sym, subst}
use Rattle.std.specs.Int.{int_min, int_max}
use Rattle.std.proofs.lemmas.List.{with_items_is}
use Rattle.state_boxes.specs.declared.sums.Sum.{Sum}
use Rattle.state_boxes.specs.Bounds.{AreSmall}
use Rattle.state_boxes.specs.Each.{IsEach}
use Rattle.state_boxes.specs.Extremes.{nothing}
use Rattle.state_boxes.specs.Sums.{no_sum, moved, sums_of}
use Rattle.state_boxes.proofs.Shifted.{few_halves, sums_many, small_least, small_greatest, AreMoved, shifted}
use Rattle.state_boxes.proofs.sums.Sums.shift.Goals as goal

pub move_sums-requires-clause-old : goal.move_sums-requires-clause-old
move_sums-requires-clause-old c =
    let many = ap (λ (xs : List ℤ). length xs) c.deref_mut.ensures.value ∙ sums_many _ _ _ c.self.view_is c.self.invariant in
    few_halves int_min (λ cell. cell.least) _ _ _ _ (c.requires.old ∙ sym many) c.least.ensures
    (λ s lt. let few = c.requires.old_few s (subst (λ n. s < n) many lt) in (few.least_low, few.least_high))

pub move_sums-requires-clause-new : goal.move_sums-requires-clause-new
move_sums-requires-clause-new c =
    let many = ap (λ (xs : List ℤ). length xs) c.deref_mut.ensures.value ∙ sums_many _ _ _ c.self.view_is c.self.invariant in
    few_halves int_min (λ cell. cell.least) _ _ _ _ (c.requires.new ∙ sym many) c.least-2.ensures
    (λ s lt. let few = c.requires.new_few s (subst (λ n. s < n) many lt) in (few.least_low, few.least_high))

pub move_sums-requires-clause-small : goal.move_sums-requires-clause-small
move_sums-requires-clause-small c =
    subst AreSmall (sym c.deref_mut.ensures.value) (small_least _ _ _ c.self.view_is c.self.invariant c.requires.small)

pub move_sums-requires-2-clause-old : goal.move_sums-requires-2-clause-old
move_sums-requires-2-clause-old c =
    let many = ap (λ (xs : List ℤ). length xs) c.deref_mut-2.ensures.value ∙ c.self.invariant ∙ sums_many _ _ _ c.self.view_is c.self.invariant in
    few_halves int_max (λ cell. cell.greatest) _ _ _ _ (c.requires.old ∙ sym many) c.greatest.ensures
    (λ s lt. let few = c.requires.old_few s (subst (λ n. s < n) many lt) in (few.greatest_low, few.greatest_high))

pub move_sums-requires-2-clause-new : goal.move_sums-requires-2-clause-new
move_sums-requires-2-clause-new c =
    let many = ap (λ (xs : List ℤ). length xs) c.deref_mut-2.ensures.value ∙ c.self.invariant ∙ sums_many _ _ _ c.self.view_is c.self.invariant in
    few_halves int_max (λ cell. cell.greatest) _ _ _ _ (c.requires.new ∙ sym many) c.greatest-2.ensures
    (λ s lt. let few = c.requires.new_few s (subst (λ n. s < n) many lt) in (few.greatest_low, few.greatest_high))

pub move_sums-requires-2-clause-small : goal.move_sums-requires-2-clause-small
move_sums-requires-2-clause-small c =
    subst AreSmall (sym c.deref_mut-2.ensures.value) (small_greatest _ _ _ c.self.view_is c.self.invariant c.requires.small)

pub returns : goal.returns
returns c =
    let least = with_items_is c.self.inside.least c.move_sums.new.sums (c.move_sums.ensures.0 ∙ c.deref_mut.ensures.len) in
    let greatest = with_items_is c.self.inside.greatest c.move_sums-2.new.sums (c.move_sums-2.ensures.0 ∙ c.deref_mut-2.ensures.len) in
    let old = c.args.old.now in
    let new = c.args.new.now in
    let sums = c.args.self.now in
    subst (λ (items : List Sum). IsEach (λ s sum. sum ≡ moved (get_or sums s no_sum) (get_or old s nothing) (get_or new s nothing)) (length sums) no_sum items)
    (λ i. sums_of (sym least i) (sym greatest i))
    (shifted _ _ sums c.self.view_is c.self.invariant old new c.requires.old c.requires.new _ _ _ _ _ _ _ _ _ _
    c.least.ensures c.least-2.ensures c.greatest.ensures c.greatest-2.ensures
    (subst (λ (xs : List ℤ). AreMoved int_min xs c.least.result.first.now c.least.result.second.now c.least-2.result.first.now c.least-2.result.second.now
    c.move_sums.new.sums) c.deref_mut.ensures.value c.move_sums.ensures)
    (subst (λ (xs : List ℤ). AreMoved int_max xs c.greatest.result.first.now c.greatest.result.second.now c.greatest-2.result.first.now c.greatest-2.result.second.now
    c.move_sums-2.new.sums) c.deref_mut-2.ensures.value c.move_sums-2.ensures))
