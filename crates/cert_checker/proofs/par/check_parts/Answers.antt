use Rattle.std.proofs.Common.{List, sym, ap, subst, ◌∙◌, inl, inr}
use Rattle.std.specs.Prelude.{All, Result, Err}
use Rattle.std.specs.List.{AllZip}
use Rattle.std.proofs.lemmas.List.Elements.{All-same}
use Rattle.std.proofs.lemmas.Result.{err_from_is_err_and}
use Rattle.cert_checker.specs.declared.parts.Part.{Part}
use Rattle.cert_checker.specs.declared.loads.Load.{Load}
use Rattle.cert_checker.specs.declared.faults.CheckFault.{CheckFault}
use Rattle.cert_checker.specs.Cut.{IsPart, IsLoad, IsLoadChecked, ArePartsChecked, first_fault, parts_of}
use Rattle.cert_checker.proofs.Dealt.{of_parts, are_loads}
use Rattle.cert_checker.proofs.par.check_parts.Goals as goal

pub check_loads-requires-clause-loads : goal.check_loads-requires-clause-loads
check_loads-requires-clause-loads g c κs lives =
    let T = c.args.tree.now.table.now in
    let nodes = c.args.tree.now.nodes.now in
    let loads : List Load = c.in_ok-loads.loads.items in
    subst (λ (ls : List Load). All (λ load. IsLoad T nodes load) ls) (sym c.deref.ensures.value)
    (are_loads T nodes loads (All-same (λ p. IsPart T nodes p) (parts_of loads) c.args.parts.now c.in_ok-loads.ensures c.requires.parts))

pub returns-in_err-loads : goal.returns-in_err-loads
returns-in_err-loads g c =
    let got = err_from_is_err_and c.from_residual.result c.from_residual.ensures.1 in
    inl (got.1 ∙ ap (λ (e : CheckFault). Err e) got.2)

pub returns-in_err-answers : goal.returns-in_err-answers
returns-in_err-answers g c =
    let got = err_from_is_err_and c.from_residual-in_err-answers.result c.from_residual-in_err-answers.ensures.1 in
    inl (got.1 ∙ ap (λ (e : CheckFault). Err e) got.2)

pub returns : goal.returns
returns g c =
    let T = c.args.tree.now.table.now in
    let nodes = c.args.tree.now.nodes.now in
    let loads : List Load = c.in_ok-loads.loads.items in
    let answers = c.in_ok-answers.answers.items in
    let all = subst (λ (ls : List Load). AllZip (λ load r. IsLoadChecked T nodes load r) ls answers) c.deref.ensures.value c.in_ok-answers.ensures in
    let checked = subst (λ (ps : List Part). ArePartsChecked T nodes ps (first_fault answers)) c.in_ok-loads.ensures (of_parts T nodes loads answers all) in
    inr
    (subst (λ (r : Result (Unit {0}) CheckFault). ArePartsChecked T nodes c.args.parts.now r) (sym (c.first_fault.ensures ∙ ap first_fault c.deref-2.ensures.value)) checked)
