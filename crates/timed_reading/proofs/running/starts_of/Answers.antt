use Rattle.std.proofs.Common.{arith}
use Rattle.std.proofs.lemmas.Grind.{common_steps}
use Rattle.std.proofs.lemmas.List.{length-map}
use Rattle.std.proofs.lemmas.List.FromFn.{map-range_with_len_more}
use Rattle.timed_reading.specs.Runs.{start_point}
use Rattle.timed_reading.proofs.running.starts_of.Goals as goal

pub table_of-table-requires : goal.table_of-table-requires
table_of-table-requires c = rw length-map at c.start_of.ensures.formed.tables.some

pub loop-train-preserved : goal.loop-train-preserved
loop-train-preserved c =
    let more = map-range_with_len_more (start_point c.args.doc.now) 0 c.loop-train.train c.loop-train.train (omega arith) in
    grind (arith, common_steps, more)
