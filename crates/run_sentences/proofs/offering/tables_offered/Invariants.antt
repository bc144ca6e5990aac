use Rattle.std.proofs.Common.{◌≡◌, take}
use Rattle.document_json.specs.Doc.{offers_of}
use Rattle.run_sentences.proofs.offering.tables_offered.Given as goal

abbrev pub invariant-loop-table : goal.invariant-loop-table
invariant-loop-table l = l.tables.items ≡ take l.table (offers_of l.doc)
