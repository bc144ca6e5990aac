use Rattle.cert_maker.proofs.Common.{◌≡◌, ◌+◌, ◌<◌, ◌≤◌, List, ℕ, Option, Some, length, refl, sym, ◌∙◌, ap, subst, IfSome, slice_get, Section}
use Rattle.std.proofs.lemmas.Option.{slice_get_read}
use Rattle.cert_maker.proofs.Numbered.{AreFound, found_step}
use Rattle.cert_maker.proofs.numbers.numbers_of.Goals as goal

pub loop-section-preserved : goal.loop-section-preserved
loop-section-preserved c =
    let old = c.args.former.now.sections in
    let new = c.args.table.now.sections in
    let k = c.loop-section.section-index in
    let o = c.first_same-number.result in
    let item = c.section-item.result in
    let at : slice_get old k ≡ Some item = ap (λ (xs : List Section). slice_get xs k) (sym c.sections-before.ensures.sections)
    ∙ slice_get_read c.sections-before.result.now _ k item refl c.loop-section-test.true c.section-item.is in
    let found = subst (λ (xs : List Section). IfSome o (λ j. (c.loop-section.from ≤ j) × (j < length xs) × (Some item ≡ slice_get xs j)))
    c.sections-sections.ensures.sections c.first_same-number.ensures in
    subst (λ (ns : List (Option ℕ)). AreFound old new (k + 1) ns c.next_from-from.result) (sym c.in_ok-push.ensures.items)
    (found_step old new k c.loop-section.from c.next_from-from.result c.loop-section.numbers.items o item c.loop-section.invariant at found c.next_from-from.ensures)
