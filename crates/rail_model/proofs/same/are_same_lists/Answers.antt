use Rattle.std.proofs.Common.{◌≡◌, ◌<◌, ◌∙◌, [], length, refl, sym, arith}
use Rattle.std.proofs.lemmas.List.{get_or_default, same_lists}
use Rattle.rail_model.proofs.same.are_same_lists.Goals as goal

pub returns : goal.returns
returns c =
    let xs = c.args.first.now in
    let ys = c.args.second.now in
    let size : length xs ≡ length ys = omega arith in
    let same = same_lists xs ys size (λ k d lt.
    let within : k < length ys = omega arith in
    get_or_default xs k d [] lt ∙ c.loop-i.invariant k (omega arith) ∙ sym (get_or_default ys k d [] within)) in
    ((λ _. same), λ _. refl)
