use Rattle.std.proofs.Common.{◌≡◌, ◌<◌, ℕ, length}
use Rattle.document_json.specs.Doc.{table_at}
use Rattle.plan_sections.proofs.refusing.first_uneven.Given as goal

abbrev pub invariant-loop-table : goal.invariant-loop-table
invariant-loop-table l = (t : ℕ) → t < l.table → length (table_at l.doc t).sections ≡ length (table_at l.own t).sections
