use Rattle.std.proofs.Common.{◌≡◌, ◌⊎◌, sym, subst, inr}
use Rattle.std.specs.Prelude.{IfErr}
use Rattle.std.proofs.lemmas.Result.{err_from_is_err_and}
use Rattle.ats_answers.specs.declared.failure.Failure.TheVariants.{Memory as NoMemory}
use Rattle.ats_answers.specs.Journals.{IsUnverified}
use Rattle.ats_answers.proofs.verifying.verify_given.Goals as goal

pub returns-in_err-journal-clause-refused : goal.returns-in_err-journal-clause-refused
returns-in_err-journal-clause-refused c =
    let D = c.args.checked.now.doc in
    let got = err_from_is_err_and c.from_residual.result c.from_residual.ensures.1 in
    subst (λ r. IfErr r (λ e. (e ≡ NoMemory) ⊎ IsUnverified D c.args.given.now e)) (sym got.1)
    (inr (c.in_err-journal.field-0.0, got.2, c.in_err-journal.ensures.refused))
