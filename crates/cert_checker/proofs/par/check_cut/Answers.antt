use Rattle.std.proofs.Common.{◌∙◌, ap, inl}
use Rattle.std.specs.Prelude.{Err}
use Rattle.std.proofs.lemmas.Result.{err_from_is_err_and}
use Rattle.cert_checker.specs.declared.faults.CheckFault.{CheckFault}
use Rattle.cert_checker.proofs.par.check_cut.Goals as goal

pub returns-in_err-lists : goal.returns-in_err-lists
returns-in_err-lists g c =
    let got = err_from_is_err_and c.from_residual.result c.from_residual.ensures.1 in
    inl (got.1 ∙ ap (λ (e : CheckFault). Err e) got.2)
