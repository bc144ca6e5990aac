-- What is found of a table's members.
use Rattle.std.specs.Prelude.{map, codes}
use Rattle.serde_json.specs.Data.{Members}
use Rattle.document_shapes.specs.Parts.{node, section, connection}
use Rattle.document_shapes.specs.Seen.{names_seen}
use Rattle.document_shapes.specs.Shape.{whole, truth, text, list_of}
use Rattle.document_shapes.specs.Taken.{Finds}
use Rattle.document_shapes.specs.declared.token_table.FoundTable.{FoundTable}

pub record TableFinds (ms : Members) (f : FoundTable) : Type 0 where
  pub missions : Finds (list_of (list_of text)) (λ v. map names_seen v.items) (codes "missions") ms f.missions
  pub exits : Finds (list_of truth) (λ v. v.items) (codes "exits") ms f.exits
  pub sections : Finds (list_of section) (λ v. v.items) (codes "sections") ms f.sections
  pub connections : Finds (list_of connection) (λ v. v.items) (codes "connections") ms f.connections
  pub certificate : Finds (list_of node) (λ v. v.items) (codes "certificate") ms f.certificate
  pub times : Finds (list_of (list_of whole)) (λ v. v.items) (codes "times") ms f.times
  pub after : Finds whole (λ n. n) (codes "after") ms f.after
