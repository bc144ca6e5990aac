use Rattle.std.proofs.Common.{◌≡◌, ◌⊎◌, ◌∙◌, ap, sym, subst}
use Rattle.std.specs.Prelude.{Ok, IfErr}
use Rattle.std.proofs.lemmas.Result.{err_from_is_err_and}
use Rattle.document_json.specs.Reading.{doc_of}
use Rattle.live_header.specs.Journals.{IsBroken, LeadsTo}
use Rattle.live_header.specs.Naming.{has_reports}
use Rattle.live_header.specs.Opening.{RefusesHeader}
use Rattle.live_header.specs.declared.refused.Refused.TheVariants.{Memory as NoMemory}
use Rattle.live_header.proofs.OpenedHeaders.{document_refused, journal_refused, other_refused, passed_up}
use Rattle.live_header.proofs.opening.open_header.Goals as goal

pub returns-in_err-hash-clause-refused : goal.returns-in_err-hash-clause-refused
returns-in_err-hash-clause-refused c =
    let h = c.args.header.now in
    let e = c.in_err-hash.field-0.0 in
    passed_up (RefusesHeader h) c.from_residual.result e c.from_residual.ensures.1
    (other_refused h e) c.in_err-hash.ensures.other

pub returns-in_err-doc-clause-refused : goal.returns-in_err-doc-clause-refused
returns-in_err-doc-clause-refused c =
    let h = c.args.header.now in
    let cause = c.in_err-doc.field-0.0 in
    let got = err_from_is_err_and c.from_residual-in_err-doc.result c.from_residual-in_err-doc.ensures.1 in
    subst (λ r. IfErr r (λ e. (e ≡ NoMemory) ⊎ RefusesHeader h e)) (sym got.1)
    (document_refused h c.document.result.now cause got.0 c.document.ensures got.2 c.in_err-doc.ensures.refused)

pub returns-in_err-state-clause-refused : goal.returns-in_err-state-clause-refused
returns-in_err-state-clause-refused c =
    let h = c.args.header.now in
    let D = c.in_ok-doc.field-0.doc in
    let e = c.in_err-state.field-0.0 in
    let document = subst (λ bs. doc_of bs ≡ Ok D) c.document.ensures c.in_ok-doc.ensures.document in
    passed_up (RefusesHeader h) c.from_residual-in_err-state.result e c.from_residual-in_err-state.ensures.1
    (λ so. journal_refused h D e document (subst (λ bs. IsBroken D bs e) c.journal.ensures so))
    c.in_err-state.ensures.refused

pub returns-clause-opened : goal.returns-clause-opened
returns-clause-opened c =
    let D = c.in_ok-doc.field-0.doc in
    record {
      hash = c.in_ok-hash.ensures.hash;
      named = c.in_ok-hash.ensures.named;
      document = subst (λ bs. doc_of bs ≡ Ok D) c.document.ensures c.in_ok-doc.ensures.document;
      accepted = c.in_ok-doc.ensures.accepted;
      tables = c.in_ok-doc.ensures.offers;
      leads = subst (λ bs. LeadsTo D bs c.in_ok-state.state) c.journal.ensures c.in_ok-state.ensures.leads;
      reports = c.has_reports-reports.ensures ∙ ap has_reports c.live.ensures;
    }
