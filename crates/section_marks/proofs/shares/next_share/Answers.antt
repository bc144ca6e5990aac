use Rattle.std.proofs.Common.{◌≡◌, ◌∙◌, ◌+ℤ◌, ◌∷◌, [], neg_ℤ, pos, ap, sym, arith, None, Some}
use Rattle.std.proofs.lemmas.Int.{ints}
use mir.Val.{to_z, of_z}
use mir.Syntax.{w32}
use Rattle.rail_model.specs.Turns.{unless}
use Rattle.rail_model.proofs.Firsts.{Err-is, passed, stopped, then_some-none, passing}
use Rattle.section_marks.specs.Marking.{most_share, bad_step, bad_share}
use Rattle.section_marks.proofs.TrainShares.{most_4, between}
use Rattle.section_marks.proofs.shares.next_share.Goals as goal

pub returns-in_err-check_share : goal.returns-in_err-check_share
returns-in_err-check_share c =
    let marks = c.args.marks in
    let s = c.args.section in
    let i = c.args.train in
    let k = c.args.place in
    let change = c.args.change in
    let share = c.args.share in
    let e = c.in_err-check_share.field-0.0 in
    let same : to_z w32 (of_z w32 change) ≡ change = omega (arith, ints) in
    let step : None ≡ bad_step marks s i k change = c.in_ok-check_step.ensures ∙ ap (bad_step marks s i k) same in
    let range = between (neg_ℤ (pos (most_share marks))) (pos (most_share marks)) change (passing _ (then_some-none _ _ (sym step))) in
    let sum : to_z w32 (of_z w32 (to_z w32 (of_z w32 share) +ℤ to_z w32 (of_z w32 change))) ≡ share +ℤ change = omega (arith, ints, most_4 marks) in
    let row : Some e ≡ bad_share marks s i k (share +ℤ change) = c.in_err-check_share.ensures ∙ ap (bad_share marks s i k) sum in
    let rows = passed (bad_step marks s i k change) (bad_share marks s i k (share +ℤ change) ∷ []) (Some e) step (stopped (bad_share marks s i k (share +ℤ change)) [] e row) in
    Err-is c.from_residual-in_err-check_share.result e c.from_residual-in_err-check_share.ensures.1 ∙ sym (ap (λ r. unless r (share +ℤ change)) rows)
