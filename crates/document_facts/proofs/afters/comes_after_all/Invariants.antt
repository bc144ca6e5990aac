use Rattle.std.proofs.Common.{ℕ, ◌<◌}
use Rattle.rail_model.specs.State.{remaining}
use Rattle.document_json.specs.Doc.{doc_table, table_at}
use Rattle.document_facts.proofs.afters.comes_after_all.Given as goal

abbrev pub invariant-loop-earlier : goal.invariant-loop-earlier
invariant-loop-earlier l = (e : ℕ) → e < l.earlier → remaining (table_at l.doc e) l.doc.start < (doc_table l.doc l.table).after
