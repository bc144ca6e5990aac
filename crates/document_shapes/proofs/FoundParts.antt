-- Sections, tables and documents, read of what was found of their members.
use Rattle.std.proofs.Common.{◌≡◌, ◌<◌, ℕ, ◌+◌, ℤ, Bool, true, false, ◌&&◌, ◌||◌, List, [], ◌∷◌, map, All, codes, Option, Some, None, option_map, Ok, Vec, Global, string_bytes, true≢false, refl, sym, ap, subst, ◌∙◌, arith}
use Rattle.std.specs.Prelude.{MatchOption, option_and_then, ok_or, is_none, nat_le, IsSomeAnd}
use Rattle.std.specs.List.{AllZip, list_all}
use Rattle.std.proofs.lemmas.Bool.Decides.{nat_tests}
use Rattle.std.proofs.lemmas.List.Elements.{All-nil, All-cons, All-head, All-tail}
use Rattle.rail_model.specs.Table.{Section}
use Rattle.rail_model.specs.Turns.{in_turn}
use Rattle.serde_json.specs.Data.{Data, object, Items, no_items, item, Members}
use Rattle.serde_json.specs.Find.{as_array, get_member}
use Rattle.document_shapes.specs.DocumentFound.{DocumentFinds, IsWholeDocument}
use Rattle.document_shapes.specs.Each.{each_from}
use Rattle.document_shapes.specs.Parts.{changes, section, connection, node}
use Rattle.document_shapes.specs.Raw.{IsOfVersion, table_members, doc_members, known_version}
use Rattle.document_shapes.specs.Readings.{elements, ReadsList}
use Rattle.document_shapes.specs.Seen.{names_seen, seen_table, seen_document}
use Rattle.document_shapes.specs.Shape.{whole, change, truth, text, each, list_of, pair}
use Rattle.document_shapes.specs.Shape as shape
use Rattle.document_shapes.specs.TableFound.{TableFinds}
use Rattle.document_shapes.specs.TableRead.{ReadsTable, is_of_version}
use Rattle.document_shapes.specs.Taken.{Finds}
use Rattle.document_shapes.specs.declared.document.DocMembers.{DocMembers}
use Rattle.document_shapes.specs.declared.member.Member.TheVariants as names
use Rattle.document_shapes.specs.declared.refused.ShapeRefused.{ShapeRefused}
use Rattle.document_shapes.specs.declared.refused.ShapeRefused.TheVariants as refused
use Rattle.document_shapes.specs.declared.table.TableMembers.{TableMembers}
use Rattle.document_shapes.specs.declared.token_document.FoundDocument.{FoundDocument}
use Rattle.document_shapes.specs.declared.token_table.FoundTable.{FoundTable}
use Rattle.document_shapes.proofs.WrittenBack.{known}
use Rattle.document_shapes.proofs.FoundLemmas.{need-found, may-found}
use Rattle.document_shapes.proofs.TableWritten.{since-back}

-- ---- a section

abbrev section_from : ℕ → List (List ℤ) → Section
section_from n cs = record { limit = n; changes = cs }

pub section-found : (ms : Members) (limit : ℕ) (v : Vec (List ℤ) Global) → Finds whole (λ n. n) (codes "limit") ms (Some limit)
    → Finds (list_of (list_of change)) (λ v. v.items) (codes "changes") ms (Some v) → section (object ms) ≡ Some (section_from limit v.items)
section-found ms limit v found listed =
    ap (option_and_then (λ n. option_map (λ cs. section_from n cs) (changes (object ms)))) found ∙ ap (option_map (λ cs. section_from limit cs)) listed

-- ---- a table

module _ (ms : Members) (t : TableMembers) where
  -- What was found is the table's members.
  pub record IsTableOf (f : FoundTable) : Type 0 where
    pub missions : f.missions ≡ Some t.missions
    pub exits : f.exits ≡ t.exits
    pub sections : f.sections ≡ t.sections
    pub connections : f.connections ≡ t.connections
    pub certificate : f.certificate ≡ t.certificate
    pub times : f.times ≡ t.times
    pub after : f.after ≡ t.after

  pub table-found : (f : FoundTable) → IsTableOf f → TableFinds ms f → ReadsTable (object ms) t
  table-found f is h =
      let g : TableFinds ms (record { missions = Some t.missions; exits = t.exits; sections = t.sections; connections = t.connections; certificate = t.certificate; times = t.times; after = t.after }) =
      subst (TableFinds ms)
      (λ i. record { missions = is.missions i; exits = is.exits i; sections = is.sections i; connections = is.connections i; certificate = is.certificate i; times = is.times i; after = is.after i }) h in
      record {
        is_object = refl;
        members = λ version number of.
            rw (
              need-found (list_of (list_of text)) (λ v. map names_seen v.items) ms (Some number) names.Missions t.missions g.missions,
              since-back 2 version _ (seen_table t).exits of.exits (may-found (list_of truth) (λ v. v.items) ms number names.Exits t.exits g.exits),
              may-found (list_of section) (λ v. v.items) ms number names.Sections t.sections g.sections,
              since-back 3 version _ (seen_table t).connections of.connections (may-found (list_of connection) (λ v. v.items) ms number names.Connections t.connections g.connections),
              may-found (list_of node) (λ v. v.items) ms number names.Certificate t.certificate g.certificate,
              may-found (list_of (list_of whole)) (λ v. v.items) ms number names.Times t.times g.times,
              may-found whole (λ n. n) ms number names.After t.after g.after ∙ ap Ok (same_option t.after),
            ) refl;
      }
    where
      same_option : (o : Option ℕ) → option_map (λ n. n) o ≡ o
      same_option None = refl
      same_option (Some n) = refl

-- ---- only members of the version

both : (a b : Bool) → (a && b) ≡ true → (a ≡ true) × (b ≡ true)
both true true h = (refl, refl)
both true false h = absurd (true≢false (sym h))
both false b h = absurd (true≢false (sym h))

module _ {A B : Type 0} (least version : ℕ) (see : A → B) where
  no_later : (o : Option A) → (nat_le least version || is_none o) ≡ true → version < least → option_map see o ≡ None
  no_later None h older = refl
  no_later (Some x) h older =
      let not_yet : nat_le least version ≡ false = grind (arith, nat_tests) in
      let never : false ≡ true = sym (ap (λ b. b || false) not_yet) ∙ h in
      absurd (true≢false (sym never))

version-of : (version : ℕ) (t : TableMembers) → is_of_version version t ≡ true → IsOfVersion version (seen_table t)
version-of version t h =
    let parts = both _ _ h in
    record {
      exits = no_later 2 version (λ v. v.items) t.exits parts.0;
      connections = no_later 3 version (λ v. v.items) t.connections parts.1;
    }

pub versions-of : (version : ℕ) (ts : List TableMembers) → list_all (λ t. is_of_version version t) ts ≡ true → All (IsOfVersion version) (map seen_table ts)
versions-of version [] h = All-nil (IsOfVersion version)
versions-of version (t ∷ ts) h =
    let parts = both (is_of_version version t) (list_all (λ u. is_of_version version u) ts) h in
    All-cons (IsOfVersion version) (seen_table t) (map seen_table ts) (version-of version t parts.0) (versions-of version ts parts.1)

-- ---- the tables of a document

each_object : (ds : Items) (ts : List TableMembers) → AllZip ReadsTable (elements ds) ts → each shape.object ds ≡ Some (elements ds)
each_object no_items [] h = refl
each_object no_items (t ∷ ts) h = absurd h
each_object (item d ds) [] h = absurd h
each_object (item d ds) (t ∷ ts) h = rw (h.0.is_object, each_object ds ts h.1) refl

tables-members : (version number : ℕ) (ds : Items) (ts : List TableMembers) → AllZip ReadsTable (elements ds) ts → All (IsOfVersion version) (map seen_table ts)
    → each_from (table_members version) number (elements ds) ≡ Ok (map seen_table ts)
tables-members version number no_items [] h of = refl
tables-members version number no_items (t ∷ ts) h of = absurd h
tables-members version number (item d ds) [] h of = absurd h
tables-members version number (item d ds) (t ∷ ts) h of =
    rw (
      h.0.members version number (All-head (IsOfVersion version) (seen_table t) (map seen_table ts) of),
      tables-members version (number + 1) ds ts h.1 (All-tail (IsOfVersion version) (seen_table t) (map seen_table ts) of),
    ) refl

module _ (version : ℕ) (v : Vec TableMembers Global) (of : All (IsOfVersion version) (map seen_table v.items)) (e : ShapeRefused) where
  tables-listed : (o : Option Items) → IsSomeAnd o (λ ds. AllZip ReadsTable (elements ds) v.items)
      → in_turn (ok_or (option_and_then (each shape.object) o) e) (each_from (table_members version) 0) ≡ Ok (map seen_table v.items)
  tables-listed None h = absurd h
  tables-listed (Some ds) h =
      ap (λ o. in_turn (ok_or o e) (each_from (table_members version) 0)) (each_object ds v.items h) ∙ tables-members version 0 ds v.items h of

  tables-found : (g : Option Data) → MatchOption g (Some v ≡ None) (λ d. ReadsList ReadsTable d v.items)
      → in_turn (ok_or (option_and_then (list_of shape.object) g) e) (each_from (table_members version) 0) ≡ Ok (map seen_table v.items)
  tables-found None h = absurd cc
  tables-found (Some d) h = tables-listed (as_array d) h

-- ---- a document

pub document-found : (ms : Members) (f : FoundDocument) (m : DocMembers) → IsWholeDocument f m → DocumentFinds ms f → doc_members (object ms) ≡ Ok (seen_document m)
document-found ms f m is h =
    let g : DocumentFinds ms (record {
      version = Some m.version;
      points = Some m.points;
      links = Some m.links;
      zones = Some m.zones;
      trains = Some m.trains;
      start = Some m.start;
      tables = Some m.tables;
    }) =
    subst (DocumentFinds ms)
    (λ i. record { version = is.version i; points = is.points i; links = is.links i; zones = is.zones i; trains = is.trains i; start = is.start i; tables = is.tables i }) h in
    rw (
      ap (λ r. in_turn r known_version) (need-found whole (λ n. n) ms None names.Version m.version g.version) ∙ known m.version is.read.first is.read.last,
      need-found (list_of (pair text whole)) (λ v. map (λ p. (string_bytes p.0, p.1)) v.items) ms None names.Points m.points g.points,
      need-found (list_of (pair text text)) (λ v. map (λ l. (string_bytes l.0, string_bytes l.1)) v.items) ms None names.Links m.links g.links,
      need-found whole (λ n. n) ms None names.Zones m.zones g.zones,
      need-found (list_of text) names_seen ms None names.Trains m.trains g.trains,
      need-found (list_of whole) (λ v. v.items) ms None names.Start m.start g.start,
      tables-found m.version m.tables is.read.tables (refused.Shape None names.Tables) (get_member (codes "tables") ms) g.tables,
    ) refl
