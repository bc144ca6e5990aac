use Rattle.std.proofs.Common.{◌<◌, length, sym, subst, arith}
use Rattle.std.specs.Prelude.{IfErr}
use Rattle.std.proofs.lemmas.Result.{err_from_is_err_and}
use Rattle.rail_model.specs.Table.{Table}
use Rattle.document_certificates.specs.Certified.{AcceptsWithin, FailsFor, HasNone}
use Rattle.document_certificates.proofs.More.{fails_in, one_more}
use Rattle.document_certificates.proofs.certifying.certify_all.Goals as goal

pub returns-in_err-cert-clause-none : goal.returns-in_err-cert-clause-none
returns-in_err-cert-clause-none g c =
    let D = c.args.doc.now in
    let n = c.loop-table.table in
    let budget = c.args.budget in
    let lt : n < length D.tables = omega (arith, c.loop-table-test.true, c.loop-table.auto.table-end, c.tables_of-table-end.ensures.count) in
    let e = c.in_err-cert.field-0.0 in
    let got = err_from_is_err_and c.from_residual.result c.from_residual.ensures.1 in
    subst (λ r. IfErr r (HasNone D budget)) (sym got.1)
    (subst (HasNone D budget) (sym got.2) (fails_in D budget n e lt (subst (λ (T : Table). FailsFor T budget n e) c.table_of.ensures.table c.in_err-cert.ensures.none)))

pub loop-table-preserved : goal.loop-table-preserved
loop-table-preserved g c =
    let D = c.args.doc.now in
    let n = c.loop-table.table in
    one_more D c.args.budget n c.loop-table.certs.items c.push.new.self.items c.in_ok-cert.cert c.loop-table.invariant c.in_ok-push.ensures.items
    (subst (λ (T : Table). AcceptsWithin c.args.budget T c.in_ok-cert.cert) c.table_of.ensures.table c.in_ok-cert.ensures.accepted)
