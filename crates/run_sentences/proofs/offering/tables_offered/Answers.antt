use Rattle.std.proofs.Common.{◌<◌, ◌∙◌, length, arith}
use Rattle.run_sentences.proofs.Offers.{one_more}
use Rattle.run_sentences.proofs.offering.tables_offered.Goals as goal

pub loop-table-preserved : goal.loop-table-preserved
loop-table-preserved c =
    let D = c.args.doc.now in
    let within : c.loop-table.table < length D.tables = omega (arith, c.loop-table-test.true, c.tables_of-table-end.ensures.count) in
    one_more D c.loop-table.table c.loop-table.tables.items c.push.new.self.items c.new.result within c.loop-table.invariant
    (c.new.ensures ∙ (λ i. record { table = c.table_of.ensures.table i; after = c.after_of.ensures.after i })) c.in_ok-push.ensures.items
