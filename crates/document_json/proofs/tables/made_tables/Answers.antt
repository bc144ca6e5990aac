use Rattle.std.proofs.Common.{◌≡◌, ◌∙◌, ◌∷◌, [], sym, ap, subst, map, length, length-append, ◌+◌, arith}
use Rattle.std.proofs.lemmas.Grind.{common_steps}
use Rattle.std.proofs.lemmas.List.Elements.{All-push}
use Rattle.std.specs.Prelude.{vec_len}
use Rattle.rail_model.specs.Table.{IsTable}
use Rattle.rail_model.proofs.Firsts.{Answers-err}
use Rattle.document_shapes.specs.Each.{each_from}
use Rattle.std.specs.Vec.Iter.{into_iter_items}
use Rattle.document_shapes.proofs.TurnLemmas.{TakenTo}
use Rattle.document_shapes.specs.Seen.{seen_table}
use Rattle.document_json.specs.Keeps.{Untimed, timed}
use Rattle.document_json.specs.Tables.{doc_table_of}
use Rattle.document_json.specs.declared.refused.DocRefused.TheVariants.{Memory}
use Rattle.document_json.proofs.TableLemmas.{table-push, all-made, one-refused}
use Rattle.document_json.proofs.tables.made_tables.Goals as goal

pub loop-table-preserved : goal.loop-table-preserved
loop-table-preserved c =
    let f = doc_table_of c.args.version c.args.layout.now (length c.args.trains.now) in
    let all = map seen_table c.args.members.items in
    let left = map seen_table (into_iter_items c.next.new.self) in
    let ts = c.loop-table.tables.items in
    let xs = c.loop-table.all_times.items in
    let number : c.len-number.result ≡ length ts = let counted : vec_len c.loop-table.tables ≡ length ts = c.loop-table.tables.ok.0 in c.len-number.ensures ∙ counted in
    let made = ap (λ n. f n (seen_table c.in-Some.table)) (sym number) ∙ c.in_ok-table.ensures.made in
    let taken = subst (λ ms. TakenTo f all (timed ts xs) (length ts) (map seen_table ms)) c.in-Some.ensures.steps.0 c.loop-table.invariant.4 in
    let pushed = table-push f all left (seen_table c.in-Some.table) ts xs c.in_ok-table.table c.in_ok-table.times c.loop-table.invariant.2 made taken in
    let equal : length c.push.new.self.items ≡ length c.push-in-loop-table.new.self.items =
    ap length c.in_ok-push.ensures.items ∙ length-append ts (c.in_ok-table.table ∷ [])
    ∙ ap (λ n. n + 1) c.loop-table.invariant.2
    ∙ sym (ap length c.in_ok-push-2.ensures.items ∙ length-append xs (c.in_ok-table.times ∷ [])) in
    let formed = All-push (λ (t : Untimed). IsTable t.table) ts c.in_ok-table.table c.loop-table.invariant.3 c.in_ok-table.ensures.formed in
    (tt, tt, equal, rw c.in_ok-push.ensures.items formed, rw (c.in_ok-push.ensures.items, c.in_ok-push-2.ensures.items) pushed)

pub returns-clause-made : goal.returns-clause-made
returns-clause-made c =
    let f = doc_table_of c.args.version c.args.layout.now (length c.args.trains.now) in
    let left : into_iter_items c.loop-table.table-iterator ≡ [] = grind (arith, common_steps, c.in-None.ensures.steps) in
    all-made f (map seen_table c.args.members.items) (timed c.loop-table.tables.items c.loop-table.all_times.items) (length c.loop-table.tables.items)
    (subst (λ ms. TakenTo f (map seen_table c.args.members.items) (timed c.loop-table.tables.items c.loop-table.all_times.items) (length c.loop-table.tables.items) (map seen_table ms)) left c.loop-table.invariant.4)

pub returns-in_err-table-clause-made : goal.returns-in_err-table-clause-made
returns-in_err-table-clause-made c =
    let f = doc_table_of c.args.version c.args.layout.now (length c.args.trains.now) in
    let all = map seen_table c.args.members.items in
    let left = map seen_table (into_iter_items c.next.new.self) in
    let ts = c.loop-table.tables.items in
    let done = timed ts c.loop-table.all_times.items in
    let m = seen_table c.in-Some.table in
    let e = c.in_err-table.field-0.0 in
    let number : c.len-number.result ≡ length ts = let counted : vec_len c.loop-table.tables ≡ length ts = c.loop-table.tables.ok.0 in c.len-number.ensures ∙ counted in
    let taken = subst (λ ms. TakenTo f all done (length ts) (map seen_table ms)) c.in-Some.ensures.steps.0 c.loop-table.invariant.4 in
    Answers-err Memory (λ p. timed p.0.items p.1.items) c.from_residual.result (each_from f 0 all) e c.from_residual.ensures.1
    (one-refused f all done (length ts) m left c.len-number.result e number taken c.in_err-table.ensures.made)
