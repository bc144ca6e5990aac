-- What is found of a section's members.
use Rattle.std.specs.Prelude.{codes}
use Rattle.serde_json.specs.Data.{Members}
use Rattle.document_shapes.specs.Shape.{whole, change, list_of}
use Rattle.document_shapes.specs.Taken.{Finds}
use Rattle.document_shapes.specs.declared.token_parts.FoundSection.{FoundSection}

pub record SectionFinds (ms : Members) (f : FoundSection) : Type 0 where
  pub limit : Finds whole (λ n. n) (codes "limit") ms f.limit
  pub changes : Finds (list_of (list_of change)) (λ v. v.items) (codes "changes") ms f.changes
