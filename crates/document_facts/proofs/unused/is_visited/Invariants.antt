use Rattle.std.proofs.Common.{ℕ, ◌<◌}
use Rattle.document_json.specs.Doc.{table_at}
use Rattle.document_facts.specs.Used.{Visits}
use Rattle.document_facts.proofs.unused.is_visited.Given as goal

abbrev pub invariant-loop-table : goal.invariant-loop-table
invariant-loop-table l = (t : ℕ) → t < l.table → Visits (table_at l.doc t) l.point → ⊥
