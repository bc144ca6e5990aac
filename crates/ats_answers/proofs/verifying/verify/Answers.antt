use Rattle.std.proofs.lemmas.Result.{IfOk-weaker, IfErr-weaker}
use Rattle.ats_answers.proofs.PairFaults.{unverified_input, verified_input}
use Rattle.ats_answers.proofs.verifying.verify.Goals as goal

pub returns-clause-verified : goal.returns-clause-verified
returns-clause-verified g c =
    IfOk-weaker c.verify_given.result _ _
    (λ text h. verified_input c.args.input.now c.in-Some.document.now c.in-Some.given.now c.in-Some.ensures
    c.in_ok-checked.checked.doc c.in_ok-checked.ensures.document text.items h)
    c.verify_given.ensures.verified

pub returns-clause-refused : goal.returns-clause-refused
returns-clause-refused g c =
    IfErr-weaker c.verify_given.result _ _
    (unverified_input c.args.input.now c.in-Some.document.now c.in-Some.given.now c.in-Some.ensures
    c.in_ok-checked.checked.doc c.in_ok-checked.ensures.document c.in_ok-checked.checked.certs.items
    c.verify_given.ensures.formed c.in_ok-checked.ensures.accepted)
    c.verify_given.ensures.refused
