use Rattle.std.proofs.Common.{◌≡◌, map, take, replicate}
use Rattle.rail_model.specs.Table.{last_of}
use Rattle.document_json.proofs.tables.ones.Given as goal

abbrev pub invariant-loop-train : goal.invariant-loop-train
invariant-loop-train l = l.times.items ≡ map (λ m. replicate (last_of m) 1) (take l.train l.table.missions)
