use Rattle.std.proofs.Common.{◌≡◌, ◌∷◌, [], ◌++◌, ◌+◌, length, take, sym, ◌∙◌, ap, subst, arith, length-append}
use Rattle.std.specs.Prelude.{vec_len}
use Rattle.std.specs.Vec.Iter.{into_iter_items}
use Rattle.std.proofs.lemmas.Grind.{common_steps}
use Rattle.rail_model.specs.Move.{Live}
use Rattle.document_json.specs.Doc.{doc_table, offers_of}
use Rattle.document_json.proofs.Offered.{offers_more}
use Rattle.ats_answers.specs.Making.{tables_in}
use Rattle.ats_answers.proofs.Made.{doc_behind, doc_table_behind}
use Rattle.ats_answers.proofs.drill.live_tables.Goals as goal

pub after-after-requires : goal.after-after-requires
after-after-requires c =
    let D = c.args.doc.now in
    let done = c.loop-table.yielded in
    let rest = into_iter_items c.next.new.self in
    let whole : tables_in D ≡ done ++ c.in-Some.table ∷ rest = grind (arith, common_steps, c.in-Some.ensures.steps) in
    let counted : vec_len c.loop-table.tables ≡ length c.loop-table.tables.items = c.loop-table.tables.ok.0 in
    omega (arith, c.len.ensures, counted, c.loop-table.invariant.3, doc_behind D done rest c.in-Some.table whole)

pub live-requires : goal.live-requires
live-requires c =
    let D = c.args.doc.now in
    let done = c.loop-table.yielded in
    let rest = into_iter_items c.next.new.self in
    let T = c.in-Some.table in
    let whole : tables_in D ≡ done ++ T ∷ rest = grind (arith, common_steps, c.in-Some.ensures.steps) in
    subst Live (sym (doc_table_behind D done rest T whole)) (c.requires.live (length done) (doc_behind D done rest T whole))

pub loop-table-preserved : goal.loop-table-preserved
loop-table-preserved c =
    let D = c.args.doc.now in
    let done = c.loop-table.yielded in
    let rest = into_iter_items c.next.new.self in
    let T = c.in-Some.table in
    let whole : tables_in D ≡ done ++ T ∷ rest = grind (arith, common_steps, c.in-Some.ensures.steps) in
    let size : length (done ++ T ∷ []) ≡ length done + 1 = length-append done (T ∷ []) in
    let counted : vec_len c.loop-table.tables ≡ length c.loop-table.tables.items = c.loop-table.tables.ok.0 in
    let number : c.len.result ≡ length done = c.len.ensures ∙ counted ∙ c.loop-table.invariant.3 in
    let after = c.after-after.ensures.after ∙ ap (λ n. (doc_table D n).after) number in
    let table = doc_table_behind D done rest T whole in
    let is = c.live.ensures ∙ (λ i. record { table = table i; after = after i }) in (
      tt,
      tt,
      grind (arith, common_steps, whole),
      ap length c.in_ok-push.ensures.items ∙ length-append c.loop-table.tables.items (c.live.result ∷ []) ∙ ap (λ n. n + 1) c.loop-table.invariant.3 ∙ sym size,
      subst (λ n. c.push.new.self.items ≡ take n (offers_of D)) (sym size)
          (offers_more D (length done) c.live.result c.loop-table.tables.items c.push.new.self.items (doc_behind D done rest T whole) c.loop-table.invariant.4 is
          c.in_ok-push.ensures.items),
    )
