-- The text of members in range reads back as they are.
use Rattle.std.proofs.Common.{◌≡◌, ◌∙◌, ℕ, ◌+◌, ◌≤◌, Bool, List, [], ◌∷◌, map, codes, All, Option, Some, None, Ok, IsUtf8, refl, ap, arith}
use Rattle.std.specs.Prelude.{⊤}
use Rattle.std.proofs.lemmas.Bool.Decides.{nat_tests}
use Rattle.std.proofs.lemmas.List.Elements.{All-head, All-tail}
use Rattle.rail_model.specs.Turns.{in_turn}
use Rattle.serde_json.specs.Data.{boolean, string, no_members}
use Rattle.serde_json.specs.View.{items_of}
use Rattle.document_shapes.specs.Each.{each_from}
use Rattle.document_shapes.specs.InRange.{IsSmall, NodeIsSmall, ConnectionIsSmall, SectionIsSmall, IfGiven, TableInRange, InRange}
use Rattle.document_shapes.specs.Parts.{node, section, connection}
use Rattle.document_shapes.specs.Raw.{DocMembers, TableMembers, IsRead, IsOfVersion, table_members, doc_members, members_of, known_version}
use Rattle.document_shapes.specs.Shape.{whole, truth, text, each, list_of, pair}
use Rattle.document_shapes.specs.Shape as shape
use Rattle.document_shapes.specs.Written.{list_data, pair_data, whole_data, node_data, section_data, connection_data, table_data, doc_data, text_of}
use Rattle.document_shapes.specs.declared.member.Member.TheVariants as names
use Rattle.document_shapes.proofs.BackLemmas.{ReadsAs, whole-as, text-as, truth-as, list-as, given-as, pair-as, numbers-as, node-as, connection-as, section-as}
use Rattle.document_shapes.proofs.PlainLemmas.{IsPlain, plain-no_members, plain-member, plain-object, plain-list, plain-within}
use Rattle.document_shapes.proofs.SeenLemmas.{listed}
use Rattle.document_shapes.proofs.TableWritten.{TableReads, needed-back, table-back, table-plain}
use Rattle.document_shapes.proofs.TextBack.{members-text}

texts-as : (ss : List (List ℕ)) → All IsUtf8 ss → ReadsAs (list_data string) 1 (list_of text) ss
texts-as = list-as IsUtf8 string 0 text text-as

-- ---- tables

exits-as : (o : Option (List Bool)) → IfGiven (ReadsAs (list_data boolean) 1 (list_of truth)) o
exits-as None = tt
exits-as (Some bs) = list-as (λ _. ⊤) boolean 0 truth (λ b _. truth-as b) bs (λ _ _ _. tt)

table-reads : (t : TableMembers) → TableInRange t → TableReads t
table-reads t h = record {
  missions = list-as (All IsUtf8) (list_data string) 1 (list_of text) texts-as t.missions h.missions;
  exits = exits-as t.exits;
  sections = given-as (All SectionIsSmall) (list_data section_data) 4 (list_of section) (list-as SectionIsSmall section_data 3 section section-as) t.sections h.sections;
  connections = given-as (All ConnectionIsSmall) (list_data connection_data) 2 (list_of connection) (list-as ConnectionIsSmall connection_data 1 connection connection-as) t.connections h.connections;
  certificate = given-as (All NodeIsSmall) (list_data node_data) 2 (list_of node) (list-as NodeIsSmall node_data 1 node node-as) t.certificate h.certificate;
  times = given-as (All (All IsSmall)) (list_data (list_data whole_data)) 2 (list_of (list_of whole)) (list-as (All IsSmall) (list_data whole_data) 1 (list_of whole) numbers-as) t.times h.times;
  after = given-as IsSmall whole_data 0 whole whole-as t.after h.after;
}

tables-back : (version number : ℕ) (ts : List TableMembers) → All TableInRange ts → All (IsOfVersion version) ts → each_from (table_members version) number (map table_data ts) ≡ Ok ts
tables-back version number [] h of = refl
tables-back version number (t ∷ ts) h of =
    let first = table-back version number t (table-reads t (All-head TableInRange t ts h)) (All-head (IsOfVersion version) t ts of) in
    rw (first, tables-back version (number + 1) ts (All-tail TableInRange t ts h) (All-tail (IsOfVersion version) t ts of)) refl

tables_are_objects : (ts : List TableMembers) → each shape.object (items_of (map table_data ts)) ≡ Some (map table_data ts)
tables_are_objects [] = refl
tables_are_objects (t ∷ ts) = rw (tables_are_objects ts) refl

-- ---- the document

pub known : (n : ℕ) → 1 ≤ n → n ≤ 3 → known_version n ≡ Ok n
known n low high = grind (arith, nat_tests)

module _ (m : DocMembers) (read : IsRead m) (h : InRange m) where
  points-as : ReadsAs (list_data (pair_data string whole_data)) 2 (list_of (pair text whole)) m.points
  points-as =
      list-as (λ p. IsUtf8 p.0 × IsSmall p.1) (pair_data string whole_data) 1 (pair text whole)
      (λ p of. pair-as string whole_data text whole p (text-as p.0 of.0) (whole-as p.1 of.1)) m.points h.points

  links-as : ReadsAs (list_data (pair_data string string)) 2 (list_of (pair text text)) m.links
  links-as =
      list-as (λ l. IsUtf8 l.0 × IsUtf8 l.1) (pair_data string string) 1 (pair text text)
      (λ l of. pair-as string string text text l (text-as l.0 of.0) (text-as l.1 of.1)) m.links h.links

  version-as : ReadsAs whole_data 0 whole m.version
  version-as = whole-as m.version (omega (arith, read.last))

  doc-plain : IsPlain 7 (doc_data m)
  doc-plain =
      let tables = plain-list 5 table_data m.tables (λ k d lt. table-plain _ (table-reads _ (h.tables k d lt))) in
      let with_zones = plain-member 6 (codes "zones") (codes "~") refl refl _ no_members (plain-within 0 6 _ (omega arith) (whole-as m.zones h.zones).plain) (plain-no_members 6 (codes "~")) in
      let with_version = plain-member 6 (codes "version") (codes "zones") refl refl _ _ (plain-within 0 6 _ (omega arith) version-as.plain) with_zones in
      let with_trains = plain-member 6 (codes "trains") (codes "version") refl refl _ _ (plain-within 1 6 _ (omega arith) (texts-as m.trains h.trains).plain) with_version in
      let with_tables = plain-member 6 (codes "tables") (codes "trains") refl refl (list_data table_data m.tables) _ tables with_trains in
      let with_start = plain-member 6 (codes "start") (codes "tables") refl refl _ _ (plain-within 1 6 _ (omega arith) (numbers-as m.start h.start).plain) with_tables in
      let with_points = plain-member 6 (codes "points") (codes "start") refl refl _ _ (plain-within 2 6 _ (omega arith) points-as.plain) with_start in
      let with_links = plain-member 6 (codes "links") (codes "points") refl refl _ _ (plain-within 2 6 _ (omega arith) links-as.plain) with_points in
      plain-object 6 (codes "links") _ with_links

  doc-back : doc_members (doc_data m) ≡ Ok m
  doc-back =
      let ms = listed (list_data (pair_data string string) m.links) (list_data (pair_data string whole_data) m.points) (list_data whole_data m.start) (list_data table_data m.tables)
      (list_data string m.trains) m.version m.zones in
      rw (
        ap (λ r. in_turn r known_version) (needed-back None names.Version whole ms (whole_data m.version) m.version refl version-as.back) ∙ known m.version read.first read.last,
        needed-back None names.Points (list_of (pair text whole)) ms (list_data (pair_data string whole_data) m.points) m.points refl points-as.back,
        needed-back None names.Links (list_of (pair text text)) ms (list_data (pair_data string string) m.links) m.links refl links-as.back,
        needed-back None names.Zones whole ms (whole_data m.zones) m.zones refl (whole-as m.zones h.zones).back,
        needed-back None names.Trains (list_of text) ms (list_data string m.trains) m.trains refl (texts-as m.trains h.trains).back,
        needed-back None names.Start (list_of whole) ms (list_data whole_data m.start) m.start refl (numbers-as m.start h.start).back,
        ap (λ r. in_turn r (each_from (table_members m.version) 0)) (needed-back None names.Tables (list_of shape.object) ms (list_data table_data m.tables) (map table_data m.tables) refl (tables_are_objects m.tables)) ∙ tables-back m.version 0 m.tables h.tables read.tables,
      ) refl

  pub text-back : members_of (text_of m) ≡ Ok m
  text-back = members-text m doc-plain ∙ doc-back
