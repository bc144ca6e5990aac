use Rattle.std.proofs.Common.{◌≡◌, map, take}
use Rattle.document_shapes.specs.Seen.{seen_table}
use Rattle.document_json.specs.Doc.{names_of}
use Rattle.document_json.specs.Members.{table_members_in}
use Rattle.document_json.proofs.members.own_tables.Given as goal

abbrev pub invariant-loop-number : goal.invariant-loop-number
invariant-loop-number l = map seen_table l.found.items ≡ map (table_members_in l.version (names_of l.doc)) (take l.number l.doc.tables)
