-- What is found of a document's members.
use Rattle.std.specs.Prelude.{◌≡◌, map, codes, string_bytes, Some}
use Rattle.serde_json.specs.Data.{Members}
use Rattle.document_shapes.specs.Raw.{IsRead}
use Rattle.document_shapes.specs.Readings.{ReadsList, ReadsGiven}
use Rattle.document_shapes.specs.Seen.{names_seen, seen_document}
use Rattle.document_shapes.specs.Shape.{whole, text, list_of, pair}
use Rattle.document_shapes.specs.TableRead.{ReadsTable}
use Rattle.document_shapes.specs.Taken.{Finds}
use Rattle.serde_json.specs.Data.{object}
use Rattle.document_shapes.specs.declared.document.DocMembers.{DocMembers}
use Rattle.document_shapes.specs.declared.token_document.FoundDocument.{FoundDocument}

pub record DocumentFinds (ms : Members) (f : FoundDocument) : Type 0 where
  pub version : Finds whole (λ n. n) (codes "version") ms f.version
  pub points : Finds (list_of (pair text whole)) (λ v. map (λ p. (string_bytes p.0, p.1)) v.items) (codes "points") ms f.points
  pub links : Finds (list_of (pair text text)) (λ v. map (λ l. (string_bytes l.0, string_bytes l.1)) v.items) (codes "links") ms f.links
  pub zones : Finds whole (λ n. n) (codes "zones") ms f.zones
  pub trains : Finds (list_of text) names_seen (codes "trains") ms f.trains
  pub start : Finds (list_of whole) (λ v. v.items) (codes "start") ms f.start
  pub tables : ReadsGiven (λ d v. ReadsList ReadsTable d v.items) (codes "tables") (object ms) f.tables

-- The members are those that were found, and they are of their version.
pub record IsWholeDocument (f : FoundDocument) (m : DocMembers) : Type 0 where
  pub version : f.version ≡ Some m.version
  pub points : f.points ≡ Some m.points
  pub links : f.links ≡ Some m.links
  pub zones : f.zones ≡ Some m.zones
  pub trains : f.trains ≡ Some m.trains
  pub start : f.start ≡ Some m.start
  pub tables : f.tables ≡ Some m.tables
  pub read : IsRead (seen_document m)
