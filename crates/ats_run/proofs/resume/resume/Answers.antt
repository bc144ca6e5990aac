use Rattle.std.proofs.Common.{◌≡◌, ◌⊎◌, refl, sym, subst}
use Rattle.std.specs.Prelude.{IfErr}
use Rattle.std.proofs.lemmas.Result.{IfOk-weaker, err_from_is_err_and}
use Rattle.accepted_documents.specs.Replaying.{IsReplay}
use Rattle.ats_answers.specs.declared.failure.Failure.{Failure}
use Rattle.ats_answers.specs.declared.failure.Failure.TheVariants.{Memory as NoMemory}
use Rattle.ats_run.specs.Command.{IsResumedInput}
use Rattle.ats_answers.specs.Refusing.{RefusesResume}
use Rattle.shared_run.specs.Crews.{crew_of}
use Rattle.ats_run.proofs.Begun.{front_leads, printed_leads}
use Rattle.ats_run.proofs.Inputs.{resumed_input}
use Rattle.ats_answers.proofs.PairFaults.{resume_refused}
use Rattle.ats_run.proofs.Resumed.{resumed_whole}
use Rattle.ats_run.proofs.resume.resume.Goals as goal

pub returns-in_err-from-clause-refused : goal.returns-in_err-from-clause-refused
returns-in_err-from-clause-refused g c =
    let input = c.args.input.now in
    let checked = c.in_ok-checked.checked in
    let got = err_from_is_err_and c.from_residual-in_err-from.result c.from_residual-in_err-from.ensures.1 in
    subst (λ r. IfErr r (λ e. (e ≡ NoMemory) ⊎ RefusesResume input e)) (sym got.1)
    (subst (λ (e : Failure). (e ≡ NoMemory) ⊎ RefusesResume input e) (sym got.2)
    (resume_refused input c.in-Some.document.now c.in-Some.given.now c.in-Some.ensures checked.doc
    c.in_ok-checked.ensures.document checked.certs.items c.replay_text.ensures.formed
    c.in_ok-checked.ensures.accepted c.in_err-from.field-0.0 c.in_err-from.ensures.refused))

pub returns-in-Whole-clause-leads : goal.returns-in-Whole-clause-leads
returns-in-Whole-clause-leads g c =
    let D = c.in_ok-checked.checked.doc in
    let input = c.args.input.now in
    let given = c.in-Some.given.now in
    let crew = crew_of c.args.workers c.args.rounds c.args.block in
    let whole = subst (IsReplay D given) c.in-Whole.is c.in_ok-from.ensures.leads in
    IfOk-weaker c.keep.result _ _
    (λ task printed. printed_leads crew (λ written. IsResumedInput crew input written) task given printed
    (resumed_input crew input c.in-Some.document.now given given c.in-Some.ensures D c.in_ok-checked.ensures.document
    (resumed_whole D c.in_ok-checked.checked.certs.items crew whole.0 given given c.replay_text.ensures.formed
    c.in_ok-checked.ensures.accepted whole.1.whole whole.1.text refl)))
    c.keep.ensures.printed

pub returns-in-Open-clause-leads : goal.returns-in-Open-clause-leads
returns-in-Open-clause-leads g c =
    let D = c.in_ok-checked.checked.doc in
    let given = c.in-Some.given.now in
    let front = subst (IsReplay D given) c.in-Open.is c.in_ok-from.ensures.leads in (
      refl,
      c.in_ok-checked.ensures.offers,
      front_leads D c.in_ok-checked.checked.certs.items (crew_of c.args.workers c.args.rounds c.args.block) c.args.input.now c.in-Some.document.now given front.0 c.in-Open.from
          c.replay_text.ensures.formed c.in_ok-checked.ensures.accepted c.in-Some.ensures c.in_ok-checked.ensures.document
          front.1 front.2.right front.2.yard front.2.lines front.2.keeps,
    )
