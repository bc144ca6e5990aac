use Rattle.std.proofs.Common.{ℕ, ◌<◌}
use Rattle.document_json.specs.Doc.{table_at}
use Rattle.document_facts.specs.Used.{Uses}
use Rattle.document_facts.proofs.unused.is_used.Given as goal

abbrev pub invariant-loop-table : goal.invariant-loop-table
invariant-loop-table l = (t : ℕ) → t < l.table → Uses (table_at l.doc t) l.link → ⊥
