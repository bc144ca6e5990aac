use Rattle.std.proofs.Common.{◌≡◌, ◌∙◌, rules}
use Rattle.std.specs.Cmp.Lexicographic.{pointwise}
use Rattle.std.specs.Ordering.{int_eq}
use Rattle.std.proofs.lemmas.Bool.Decides.{Decides-int_eq}
use Rattle.std.proofs.lemmas.Slice.Eq.{slice_eq-Decides}
use Rattle.rail_model.proofs.same.are_same_changes.Goals as goal

pub returns : goal.returns
returns c =
    let same : c.eq.result ≡ pointwise int_eq c.args.first.now c.args.second.now =
    c.eq.ensures ∙ (λ i. pointwise int_eq (c.as_slice.ensures i) (c.as_slice-2.ensures i)) in
    let decided = slice_eq-Decides Decides-int_eq c.args.first.now c.args.second.now c.eq.result same in
    search (rules, decided)
