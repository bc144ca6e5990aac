use Rattle.std.proofs.Common.{◌≡◌, map, take}
use Rattle.document_json.specs.Doc.{DocTable}
use Rattle.delayed_documents.specs.Delayed.{with_delay_under}
use Rattle.delayed_documents.proofs.copying.times_with.Given as goal

abbrev pub invariant-loop-table : goal.invariant-loop-table
invariant-loop-table l =
    l.found.items ≡ map (λ (t : DocTable). (with_delay_under l.doc.layout l.train l.delay t).times) (take l.table l.doc.tables)
