use Rattle.std.proofs.Common.{◌<◌, ◌∙◌, length, arith}
use Rattle.run_sentences.proofs.NeverBoth.{copied_more}
use Rattle.run_sentences.proofs.apart.tables_copied.Goals as goal

pub loop-number-preserved : goal.loop-number-preserved
loop-number-preserved c =
    let D = c.args.doc.now in
    let within : c.loop-number.number < length D.tables = omega (arith, c.loop-number-test.true, c.tables_of-number-end.ensures.count) in
    copied_more D c.loop-number.number c.loop-number.tables.items c.push.new.self.items _ within c.loop-number.invariant
    (c.in_ok-copy_table.ensures ∙ c.table_of.ensures.table) c.in_ok-push.ensures.items
