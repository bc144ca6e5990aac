use Rattle.std.proofs.Common.{◌≡◌, ◌⊎◌, ◌<◌, length, sym, ◌∙◌, subst, arith}
use Rattle.std.specs.Prelude.{IfErr}
use Rattle.std.proofs.lemmas.Result.{err_from_is_err_and}
use Rattle.ats_answers.specs.declared.failure.Failure.{Failure}
use Rattle.ats_answers.specs.declared.failure.Failure.TheVariants.{Memory as NoMemory}
use Rattle.ats_answers.specs.Making.{tables_in, FailsToMake}
use Rattle.ats_answers.proofs.Made.{table_count, table_of_doc, made_more, none_at}
use Rattle.ats_answers.proofs.making.make_all.Goals as goal

pub returns-in_err-make_one-clause-unmade : goal.returns-in_err-make_one-clause-unmade
returns-in_err-make_one-clause-unmade c =
    let D = c.args.doc.now in
    let n = c.loop-table.table in
    let lt : n < length D.tables = omega (arith, c.loop-table-test.true, c.loop-table.auto.table-end, c.tables_of-table-end.ensures.count) in
    let within : n < length (tables_in D) = omega (arith, lt, table_count D) in
    let got = err_from_is_err_and c.from_residual.result c.from_residual.ensures.1 in
    subst (λ r. IfErr r (λ e. (e ≡ NoMemory) ⊎ FailsToMake (tables_in D) c.args.budget.nodes e)) (sym got.1)
    (subst (λ (e : Failure). (e ≡ NoMemory) ⊎ FailsToMake (tables_in D) c.args.budget.nodes e) (sym got.2)
    (none_at (tables_in D) c.args.budget.nodes n c.loop-table.certs.items c.table_of.result.now c.in_err-make_one.field-0.0 c.loop-table.invariant within
    (c.table_of.ensures.table ∙ sym (table_of_doc D n lt)) c.in_err-make_one.ensures.none))

pub loop-table-preserved : goal.loop-table-preserved
loop-table-preserved c =
    let D = c.args.doc.now in
    let n = c.loop-table.table in
    let lt : n < length D.tables = omega (arith, c.loop-table-test.true, c.loop-table.auto.table-end, c.tables_of-table-end.ensures.count) in
    made_more (tables_in D) c.args.budget.nodes n c.loop-table.certs.items c.push.new.self.items c.table_of.result.now c.in_ok-make_one.field-0 c.loop-table.invariant
    c.in_ok-push.ensures.items (c.table_of.ensures.table ∙ sym (table_of_doc D n lt)) c.in_ok-make_one.ensures.made c.in_ok-make_one.ensures.accepted
