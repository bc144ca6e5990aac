-- A document that members make, with the certificates that are made for it, has a text that reads as it.
use Rattle.std.proofs.Common.{◌≡◌, ◌∙◌, ℕ, ◌<◌, ◌≤◌, List, [], length, map, get_or, All, Option, Some, Ok, IsUtf8, sym, ap, subst, arith}
use Rattle.std.specs.Prelude.{unwrap_or}
use Rattle.std.proofs.lemmas.List.Elements.{All-map}
use Rattle.rail_model.specs.Certificate.{Tree, Accepts, arrived}
use Rattle.rail_model.specs.Layout.{Layout, point_names}
use Rattle.rail_model.specs.Names.{Names}
use Rattle.rail_model.specs.Table.{Table, Section, IsTable}
use Rattle.rail_model.specs.Turns.{in_turn, unless}
use Rattle.rail_model.proofs.Firsts.{unless-ok}
use Rattle.mission_table.specs.Ways.{missions_from}
use Rattle.mission_table.proofs.Taken.{trains_taken}
use Rattle.section_marks.specs.Marking.{table_from, sections_refusal}
use Rattle.section_marks.specs.Connecting.{connected, connections_refusal}
use Rattle.section_marks.proofs.Made.{table_of as marked}
use Rattle.document_shapes.specs.Each.{each_from}
use Rattle.document_shapes.specs.InRange.{IsSmall, SectionIsSmall, IfGiven, TableInRange, InRange}
use Rattle.document_shapes.specs.Raw.{DocMembers, TableMembers}
use Rattle.document_shapes.proofs.EachLemmas.{in_turn-ok, each-good}
use Rattle.document_shapes.proofs.WrittenBack.{text-back}
use Rattle.document_json.specs.Doc.{Doc, DocTable, IsDoc, table_at, names_of}
use Rattle.document_json.specs.Keeps.{IsTaken}
use Rattle.document_json.specs.Members.{members_in, table_members_in}
use Rattle.document_json.specs.Reading.{doc_of, doc_from}
use Rattle.document_json.specs.Replaced.{recertified, certified}
use Rattle.document_json.specs.Tables.{refused_as, marks_of, exits_or_none, times_or_one, after_refusal, times_refusal, table_of, doc_table_of}
use Rattle.document_json.specs.Trees.{tree_at}
use Rattle.document_json.specs.Written.{written}
use Rattle.document_json.specs.declared.refused.DocRefused.TheVariants as refused
use Rattle.document_json.proofs.LayoutBack.{layout-made_of}
use Rattle.document_json.proofs.NamedLemmas.{members-are-read}
use Rattle.document_json.proofs.Remade.{certified-is-taken, length-each_with, each_with-at, no_table}
use Rattle.document_json.proofs.TableBack.{refused_as-ok, doc_table-made}
use Rattle.document_json.proofs.Taken.{Makes, makes}
use Rattle.document_json.proofs.WaysBack.{missions-made_of}
use Rattle.document_json.proofs.WrittenBack.{doc-back}
use Rattle.ats_answers.proofs.SmallNodes.{certificate-small}

-- ---- a table has its members' sections, times and delay

module _ (version : ℕ) (L : Layout) (n t : ℕ) (m : TableMembers) where
  sections_made : (T : Table) → table_of version L n t m ≡ Ok T → T.sections ≡ unwrap_or m.sections []
  unfolding table_from connected
  sections_made T h =
      let S = unwrap_or m.sections [] in
      let C = unwrap_or m.connections [] in
      let marks = marks_of version in
      let a =
      in_turn-ok (refused_as (refused.Missions t) (missions_from L n m.missions (exits_or_none n m.exits)))
      (λ ms. in_turn (refused_as (refused.Marks t) (table_from marks ms S)) (λ T0. refused_as (refused.Marks t) (connected T0 C))) T h in
      let b = in_turn-ok (refused_as (refused.Marks t) (table_from marks a.value S)) (λ T0. refused_as (refused.Marks t) (connected T0 C)) T a.behind in
      let plain = unless-ok (sections_refusal marks a.value S) (marked a.value S) b.value (refused_as-ok (refused.Marks t) (table_from marks a.value S) b.value b.first) in
      let joined = unless-ok (connections_refusal b.value C) (record b.value { connections = C }) T (refused_as-ok (refused.Marks t) (connected b.value C) T b.behind) in
      ap (λ (U : Table). U.sections) (sym joined.1) ∙ ap (λ (U : Table). U.sections) (sym plain.1)

  -- What is in the table as the members have it.
  record IsFrom (y : DocTable) : Type 0 where
    sections : y.table.sections ≡ unwrap_or m.sections []
    times : y.times ≡ times_or_one y.table m.times
    after : y.after ≡ unwrap_or m.after 0

  made-from : (y : DocTable) → doc_table_of version L n t m ≡ Ok y → IsFrom y
  made-from y h =
      let after = unwrap_or m.after 0 in
      let timed = λ (T : Table). times_or_one T m.times in
      let ended = λ (a : ℕ) (T : Table) (times : List (List ℕ)). Ok (record { table = T; after = a; times = times; nodes = unwrap_or m.certificate [] }) in
      let a =
      in_turn-ok (unless (after_refusal t after) after)
      (λ a. in_turn (table_of version L n t m) (λ T. in_turn (unless (times_refusal t T (timed T)) (timed T)) (ended a T))) y h in
      let b = in_turn-ok (table_of version L n t m) (λ T. in_turn (unless (times_refusal t T (timed T)) (timed T)) (ended a.value T)) y a.behind in
      let T = b.value in
      let c = in_turn-ok (unless (times_refusal t T (timed T)) (timed T)) (ended a.value T) y b.behind in
      let due = unless-ok (after_refusal t after) after a.value a.first in
      let on_time = unless-ok (times_refusal t T (timed T)) (timed T) c.value c.first in
      let end = c.behind in
      let whole : record { table = T; after = a.value; times = c.value; nodes = unwrap_or m.certificate [] } ≡ y = cc in
      let made : IsFrom (record { table = T; after = a.value; times = c.value; nodes = unwrap_or m.certificate [] }) =
      record { sections = sections_made T b.first; times = sym on_time.1; after = sym due.1 } in
      subst IsFrom whole made

-- ---- each table of a document whose members are in range

-- Every member of the table but its certificate, of version 1, is in range.
record IsGoodTable (N : Names) (y : DocTable) : Type 0 where
  missions : All (All IsUtf8) (table_members_in 1 N y).missions
  sections : All SectionIsSmall y.table.sections
  times : All (All IsSmall) y.times
  after : IsSmall y.after

-- Sections, times and a delay are given.
pub record AreGiven (m : TableMembers) : Type 0 where
  pub sections : List Section
  pub sections_are : m.sections ≡ Some sections
  pub times : List (List ℕ)
  pub times_are : m.times ≡ Some times
  pub after : ℕ
  pub after_is : m.after ≡ Some after

-- what is given is so
given : {A : Type 0} (P : A → Type 0) (o : Option A) (x : A) → o ≡ Some x → IfGiven P o → P x
given P o x some h = subst (IfGiven P) some h

good_table : (L : Layout) (names : List (List ℕ)) (t : ℕ) (m : TableMembers) (y : DocTable) → AreGiven m × TableInRange m → doc_table_of 1 L (length names) t m ≡ Ok y
    → IsGoodTable (record { points = point_names L; trains = names }) y
good_table L names t m y h made =
    let n = length names in
    let g = h.0 in
    let from = made-from 1 L n t m y made in
    let ways = missions-made_of L n m.missions (exits_or_none n m.exits) y.table.missions (doc_table-made 1 L n t m y made).table.missions in
    record {
      missions = subst (All (All IsUtf8)) (sym ways.ways_are) h.1.missions;
      sections =
          subst (All SectionIsSmall) (sym (from.sections ∙ ap (λ o. unwrap_or o []) g.sections_are))
          (given (All SectionIsSmall) m.sections g.sections g.sections_are h.1.sections);
      times = subst (All (All IsSmall)) (sym (from.times ∙ ap (times_or_one y.table) g.times_are)) (given (All (All IsSmall)) m.times g.times g.times_are h.1.times);
      after = subst IsSmall (sym (from.after ∙ ap (λ o. unwrap_or o 0) g.after_is)) (given IsSmall m.after g.after g.after_is h.1.after);
    }

-- the members of a table with a certificate that it accepts
with_certificate : (N : Names) (y : DocTable) (c : Tree) → IsGoodTable N y → IsTable y.table → Accepts y.table c → TableInRange (table_members_in 1 N (recertified y c))
with_certificate N y c h formed accepted = record {
  missions = h.missions;
  sections = h.sections;
  connections = tt;
  certificate = certificate-small y.table formed c accepted;
  times = h.times;
  after = h.after;
}

-- ---- the document

module _ (m : DocMembers) (D : Doc) (trees : List Tree) (one : D.version ≡ 1) (ranged : InRange m) (given_all : All AreGiven m.tables) (from : doc_from m ≡ Ok D)
    (doc : IsDoc D) (taken : IsTaken D) (one_each : length trees ≡ length D.tables) (accepted : (t : ℕ) → t < length D.tables → Accepts (table_at D t) (tree_at trees t)) where
  abbrev E : Doc
  E = certified D trees

  parts : Makes m D
  parts = makes m D from

  good : (k : ℕ) (d : DocTable) → k < length D.tables → IsGoodTable (names_of D) (get_or D.tables k d)
  good k d lt =
      let first : m.version ≡ 1 = parts.version_is ∙ one in
      let tables : each_from (doc_table_of 1 D.layout (length D.trains)) 0 m.tables ≡ Ok D.tables =
      subst (λ v. each_from (doc_table_of v D.layout (length D.trains)) 0 m.tables ≡ Ok D.tables) first parts.tabled.made in
      each-good (doc_table_of 1 D.layout (length D.trains)) (λ x. AreGiven x × TableInRange x) (λ _ y. IsGoodTable (names_of D) y) (good_table D.layout D.trains) 0 m.tables D.tables
      (λ j e below. (given_all j e below, ranged.tables j e below)) tables k d lt

  tables-in_range : All TableInRange (map (table_members_in 1 (names_of D)) E.tables)
  tables-in_range =
      All-map TableInRange (table_members_in 1 (names_of D)) E.tables
      (λ k d lt.
      let within : k < length D.tables = omega (arith, lt, length-each_with recertified D.tables trees one_each) in
      subst (λ (z : DocTable). TableInRange (table_members_in 1 (names_of D) z)) (sym (each_with-at recertified D.tables trees k d no_table arrived one_each within))
      (with_certificate (names_of D) (get_or D.tables k no_table) (tree_at trees k) (good k no_table within) (doc.formed k within) (accepted k within)))

  members-in_range : InRange (members_in E)
  members-in_range =
      let layout = layout-made_of m.points m.links m.zones D.layout parts.tabled.layout in
      let trains = ((trains_taken m.trains D.trains).0 parts.tabled.trains_are).0 in
      record {
        points = subst (All (λ p. IsUtf8 p.0 × IsSmall p.1)) (sym layout.points_are) ranged.points;
        links = subst (All (λ l. IsUtf8 l.0 × IsUtf8 l.1)) (sym layout.links_are) ranged.links;
        zones = subst IsSmall (sym layout.zones_are) ranged.zones;
        trains = subst (All IsUtf8) (sym trains) ranged.trains;
        start = subst (All IsSmall) parts.start_is ranged.start;
        tables = subst (λ v. All TableInRange (map (table_members_in v (names_of D)) E.tables)) (sym one) tables-in_range;
      }

  -- the text of the document with the certificates reads as it
  pub written-back : doc_of (written E) ≡ Ok E
  written-back =
      let read = members-are-read E (subst (λ v. 1 ≤ v) (sym one) (omega arith)) (subst (λ v. v ≤ 3) (sym one) (omega arith)) in
      doc-back E (written E) (certified-is-taken D taken trees one_each) (text-back (members_in E) read members-in_range)
