use Rattle.std.proofs.Common.{List, ◌∷◌, ◌≡◌, ◌+◌, drop, sym, subst, ◌∙◌, ap, arith, rules}
use Rattle.std.specs.Prelude.{Result, Ok, Err}
use Rattle.std.proofs.lemmas.List.{drop_more, drop_all}
use Rattle.std.proofs.lemmas.Result.{err_from_is_err_and}
use Rattle.cert_checker.specs.declared.parts.Part.{Part}
use Rattle.cert_checker.specs.declared.faults.CheckFault.{CheckFault}
use Rattle.cert_checker.specs.Cut.{IsChecked, ArePartsChecked}
use Rattle.cert_checker.proofs.Dealt.{none_checked, good_then, bad_first}
use Rattle.cert_checker.proofs.par.check_load.Goals as goal

pub returns-in_err-check_part : goal.returns-in_err-check_part
returns-in_err-check_part c =
    let T = c.args.tree.now.table.now in
    let nodes = c.args.tree.now.nodes.now in
    let parts : List Part = c.args.load.now.parts.now in
    let at = c.loop-part.part-index in
    let part : Part = c.part-item.result in
    let fault : CheckFault = c.in_err-check_part.field-0.0 in
    let answer : Result (Unit {0}) CheckFault = c.from_residual.result in
    let got = err_from_is_err_and c.from_residual.result c.from_residual.ensures.1 in
    let here : drop at parts ≡ part ∷ drop (at + 1) parts = search (rules, drop_more) in
    let bad : IsChecked T nodes part (Err fault) = subst (IsChecked T nodes part) c.in_err-check_part.was c.check_part.ensures in
    let is_answer : answer ≡ Err fault = got.1 ∙ ap (λ (e : CheckFault). Err e) got.2 in
    c.loop-part.invariant answer (subst (λ (ps : List Part). ArePartsChecked T nodes ps answer) (sym here)
    (subst (ArePartsChecked T nodes (part ∷ drop (at + 1) parts)) (sym is_answer) (bad_first T nodes part (drop (at + 1) parts) fault bad)))

pub loop-part-preserved : goal.loop-part-preserved
loop-part-preserved c answer later =
    let T = c.args.tree.now.table.now in
    let nodes = c.args.tree.now.nodes.now in
    let parts : List Part = c.args.load.now.parts.now in
    let at = c.loop-part.part-index in
    let part : Part = c.part-item.result in
    let here : drop at parts ≡ part ∷ drop (at + 1) parts = search (rules, drop_more) in
    let good : IsChecked T nodes part (Ok tt) = subst (IsChecked T nodes part) c.in_ok-check_part.was c.check_part.ensures in
    c.loop-part.invariant answer (subst (λ (ps : List Part). ArePartsChecked T nodes ps answer) (sym here)
    (good_then T nodes part (drop (at + 1) parts) answer good later))

pub returns : goal.returns
returns c =
    let T = c.args.tree.now.table.now in
    let nodes = c.args.tree.now.nodes.now in
    let parts : List Part = c.args.load.now.parts.now in
    let good : Result (Unit {0}) CheckFault = Ok tt in
    c.loop-part.invariant good (subst (λ (ps : List Part). ArePartsChecked T nodes ps good) (sym (drop_all c.loop-part.part-index parts (omega arith))) (none_checked T nodes))
