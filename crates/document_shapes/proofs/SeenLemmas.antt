-- What stands for the members of tables and of documents, as definitions see them.
use Rattle.std.proofs.Common.{◌≡◌, List, [], ◌∷◌, map, Option, Some, None, option_map, refl, ap, ap₂, Vec, String, Global, string_bytes, ℕ, Bool, ◌++◌, codes, All, IsUtf8, ◌∙◌}
use Rattle.std.proofs.lemmas.List.Elements.{All-map, All-weaker}
use Rattle.rail_model.specs.declared.types.Node.{Node}
use Rattle.rail_model.specs.Table.{Section, Connection}
use Rattle.json.specs.Token.{begin_object, end_object}
use Rattle.serde_json.specs.Data.{Data, string, array, item, boolean, object, no_members, Members, member}
use Rattle.serde_json.specs.View.{items_of}
use Rattle.document_shapes.specs.InRange.{IfGiven, IsSmall, NodeIsSmall, ConnectionIsSmall, SectionIsSmall, TableInRange, InRange}
use Rattle.document_shapes.specs.Seen.{names_seen, seen_table, seen_document}
use Rattle.document_shapes.specs.Written.{list_data, whole_data, node_data, section_data, connection_data, table_data, pair_data, doc_data}
use Rattle.document_shapes.specs.Added.{tokens_of, member_tokens, given_tokens}
use Rattle.document_shapes.specs.declared.table.TableMembers.{TableMembers}
use Rattle.document_shapes.specs.Raw.{DocMembers as RawDoc}
use Rattle.document_shapes.specs.declared.document.DocMembers.{DocMembers}
use Rattle.document_shapes.proofs.AddedLemmas.{given-tokens}
use Rattle.document_shapes.proofs.TableOrder.{Standing, from_times, from_missions, from_exits, from_connections, from_certificate, all_members, standing_for}

module _ {X A : Type 0} (put : X → Data) (look : A → Data) (see : X → A) (same : (x : X) → put x ≡ look (see x)) where
  items-seen : (xs : List X) → items_of (map put xs) ≡ items_of (map look (map see xs))
  items-seen [] = refl
  items-seen (x ∷ xs) = ap₂ item (same x) (items-seen xs)

  pub list-seen : (xs : List X) → list_data put xs ≡ list_data look (map see xs)
  list-seen xs = ap array (items-seen xs)

  pub given-seen : (o : Option X) → option_map put o ≡ option_map look (option_map see o)
  given-seen None = refl
  given-seen (Some x) = ap Some (same x)

-- what holds of what there is, as it is seen
pub given-kept : {X A : Type 0} (P : X → Type 0) (Q : A → Type 0) (see : X → A) → ((x : X) → P x → Q (see x)) → (o : Option X) → IfGiven P o → IfGiven Q (option_map see o)
given-kept P Q see kept None h = tt
given-kept P Q see kept (Some x) h = kept x h

-- what stands for a text, and for a list of names
abbrev pub put_text : String Global → Data
put_text s = string (string_bytes s)

abbrev pub put_names : Vec (String Global) Global → Data
put_names v = list_data put_text v.items

pub names-seen : (v : Vec (String Global) Global) → put_names v ≡ list_data string (names_seen v)
names-seen v = list-seen put_text string string_bytes (λ s. refl) v.items

-- ---- a table

-- what stands for the lists of a table
abbrev put_missions : Vec (Vec (String Global) Global) Global → Data
put_missions v = list_data put_names v.items

abbrev put_exits : Vec Bool Global → Data
put_exits v = list_data boolean v.items

abbrev put_sections : Vec Section Global → Data
put_sections v = list_data section_data v.items

abbrev put_connections : Vec Connection Global → Data
put_connections v = list_data connection_data v.items

abbrev put_nodes : Vec Node Global → Data
put_nodes v = list_data node_data v.items

abbrev put_times : Vec (List ℕ) Global → Data
put_times v = list_data (list_data whole_data) v.items

missions-seen : (v : Vec (Vec (String Global) Global) Global) → put_missions v ≡ list_data (list_data string) (map names_seen v.items)
missions-seen v = list-seen put_names (list_data string) names_seen names-seen v.items

module _ (t : TableMembers) where
  abbrev standing : Standing
  standing = record {
    after = option_map whole_data t.after;
    certificate = option_map put_nodes t.certificate;
    connections = option_map put_connections t.connections;
    exits = option_map put_exits t.exits;
    missions = put_missions t.missions;
    sections = option_map put_sections t.sections;
    times = option_map put_times t.times;
  }

  standing-seen : standing ≡ standing_for (seen_table t)
  standing-seen =
      let certificate = given-seen put_nodes (list_data node_data) (λ v. v.items) (λ v. refl) t.certificate in
      let connections = given-seen put_connections (list_data connection_data) (λ v. v.items) (λ v. refl) t.connections in
      let exits = given-seen put_exits (list_data boolean) (λ v. v.items) (λ v. refl) t.exits in
      let missions = missions-seen t.missions in
      let sections = given-seen put_sections (list_data section_data) (λ v. v.items) (λ v. refl) t.sections in
      let times = given-seen put_times (list_data (list_data whole_data)) (λ v. v.items) (λ v. refl) t.times in
      λ i. record {
        after = option_map whole_data t.after;
        certificate = certificate i;
        connections = connections i;
        exits = exits i;
        missions = missions i;
        sections = sections i;
        times = times i;
      }

  -- the table as it is seen
  table-seen : object (all_members standing) ≡ table_data (seen_table t)
  table-seen = ap (λ s. object (all_members s)) standing-seen

  -- the tokens of the members, one after another
  pub table-tokens : begin_object ∷ (given_tokens (codes "after") standing.after ++ (given_tokens (codes "certificate") standing.certificate
      ++ (given_tokens (codes "connections") standing.connections ++ (given_tokens (codes "exits") standing.exits ++ (member_tokens (codes "missions") standing.missions
      ++ (given_tokens (codes "sections") standing.sections ++ (given_tokens (codes "times") standing.times ++ end_object ∷ []))))))) ≡ tokens_of (table_data (seen_table t))
  table-tokens =
      let s = standing in
      let times = given-tokens (codes "times") s.times no_members in
      let sections = ap (λ ts. given_tokens (codes "sections") s.sections ++ ts) times ∙ given-tokens (codes "sections") s.sections (from_times s) in
      let exits = ap (λ ts. given_tokens (codes "exits") s.exits ++ (member_tokens (codes "missions") s.missions ++ ts)) sections ∙ given-tokens (codes "exits") s.exits (from_missions s) in
      let connections = ap (λ ts. given_tokens (codes "connections") s.connections ++ ts) exits ∙ given-tokens (codes "connections") s.connections (from_exits s) in
      let certificate = ap (λ ts. given_tokens (codes "certificate") s.certificate ++ ts) connections ∙ given-tokens (codes "certificate") s.certificate (from_connections s) in
      let after = ap (λ ts. given_tokens (codes "after") s.after ++ ts) certificate ∙ given-tokens (codes "after") s.after (from_certificate s) in
      ap (λ ts. begin_object ∷ ts) after ∙ ap tokens_of table-seen

  -- the table is in range where its lists are
  pub table-in_range : All (λ w. All (λ x. IsUtf8 (string_bytes x)) w.items) t.missions.items → IfGiven (λ v. All SectionIsSmall v.items) t.sections
      → IfGiven (λ v. All ConnectionIsSmall v.items) t.connections → IfGiven (λ v. All NodeIsSmall v.items) t.certificate
      → IfGiven (λ v. All (All IsSmall) v.items) t.times → IfGiven IsSmall t.after → TableInRange (seen_table t)
  table-in_range missions sections connections certificate times after = record {
    missions =
        All-map (All IsUtf8) names_seen t.missions.items
        (All-weaker (λ w. All (λ x. IsUtf8 (string_bytes x)) w.items) (λ w. All IsUtf8 (names_seen w)) (λ w. All-map IsUtf8 string_bytes w.items) t.missions.items missions);
    sections = given-kept _ (All SectionIsSmall) (λ v. v.items) (λ v h. h) t.sections sections;
    connections = given-kept _ (All ConnectionIsSmall) (λ v. v.items) (λ v h. h) t.connections connections;
    certificate = given-kept _ (All NodeIsSmall) (λ v. v.items) (λ v h. h) t.certificate certificate;
    times = given-kept _ (All (All IsSmall)) (λ v. v.items) (λ v h. h) t.times times;
    after = after;
  }

-- ---- a document

-- what stands for the lists of a document
abbrev put_numbers : Vec ℕ Global → Data
put_numbers v = list_data whole_data v.items

abbrev put_points : Vec (String Global × ℕ) Global → Data
put_points v = list_data (pair_data put_text whole_data) v.items

abbrev put_links : Vec (String Global × String Global) Global → Data
put_links v = list_data (pair_data put_text put_text) v.items

abbrev put_tables : Vec TableMembers Global → Data
put_tables v = list_data (λ t. table_data (seen_table t)) v.items

abbrev look_point : String Global × ℕ → List ℕ × ℕ
look_point p = (string_bytes p.0, p.1)

abbrev look_link : String Global × String Global → List ℕ × List ℕ
look_link l = (string_bytes l.0, string_bytes l.1)

abbrev pub listed : Data → Data → Data → Data → Data → ℕ → ℕ → Members
listed links points start tables trains version zones =
    member (codes "links") links
    (member (codes "points") points
    (member (codes "start") start
    (member (codes "tables") tables
    (member (codes "trains") trains
    (member (codes "version") (whole_data version)
    (member (codes "zones") (whole_data zones)
    no_members))))))

module _ (d : DocMembers) where
  abbrev seen : RawDoc
  seen = seen_document d

  abbrev pieces : Members
  pieces = listed (put_links d.links) (put_points d.points) (put_numbers d.start) (put_tables d.tables) (put_names d.trains) d.version d.zones

  tables-seen : put_tables d.tables ≡ list_data table_data seen.tables
  tables-seen = list-seen (λ t. table_data (seen_table t)) table_data seen_table (λ t. refl) d.tables.items

  -- the document as it is seen
  doc-seen : object pieces ≡ doc_data seen
  doc-seen =
      let links = list-seen (pair_data put_text put_text) (pair_data string string) look_link (λ l. refl) d.links.items in
      let points = list-seen (pair_data put_text whole_data) (pair_data string whole_data) look_point (λ p. refl) d.points.items in
      let trains = names-seen d.trains in
      λ i. object (listed (links i) (points i) (put_numbers d.start) (tables-seen i) (trains i) d.version d.zones)

  pub doc-tokens : tokens_of (object pieces) ≡ tokens_of (doc_data seen)
  doc-tokens = ap tokens_of doc-seen

  -- the document is in range where its lists are
  pub doc-in_range : IsSmall d.zones → All (λ x. IsUtf8 (string_bytes x)) d.trains.items → All (λ t. TableInRange (seen_table t)) d.tables.items → All IsSmall d.start.items
      → All (λ p. IsUtf8 (string_bytes p.0) × IsSmall p.1) d.points.items → All (λ l. IsUtf8 (string_bytes l.0) × IsUtf8 (string_bytes l.1)) d.links.items → InRange seen
  doc-in_range zones trains tables start points links = record {
    points = All-map (λ p. IsUtf8 p.0 × IsSmall p.1) look_point d.points.items points;
    links = All-map (λ l. IsUtf8 l.0 × IsUtf8 l.1) look_link d.links.items links;
    zones = zones;
    trains = All-map IsUtf8 string_bytes d.trains.items trains;
    start = start;
    tables = All-map TableInRange seen_table d.tables.items tables;
  }
