-- A document that members make is formed: its parts fit together, the start is legal, and its own members make it again.
use Rattle.std.proofs.Common.{◌≡◌, ◌∙◌, ℕ, ◌<◌, ◌≤◌, not, ◌==◌, List, [], length, All, None, Ok, refl, sym, ap, subst, arith, zero-add}
use Rattle.std.specs.Prelude.{option_map, slice_index_or}
use Rattle.std.specs.Bool.{then_some}
use Rattle.std.proofs.lemmas.Bool.{eqb-true, not-false}
use Rattle.std.proofs.lemmas.Bool.Decides.{nat_tests}
use Rattle.std.proofs.lemmas.Int.{ints}
use Rattle.std.proofs.lemmas.List.{length-map}
use Rattle.rail_model.specs.Layout.{Layout, IsLayout}
use Rattle.rail_model.specs.Move.{IsOver}
use Rattle.rail_model.specs.State.{Legal}
use Rattle.rail_model.specs.Table.{Table, IsTable, trains, last, place}
use Rattle.rail_model.specs.Turns.{first_below}
use Rattle.rail_model.specs.Ways.{IsOn}
use Rattle.rail_model.proofs.Firsts.{option_or-none, first_below-none, then_some-none, option_map-none}
use Rattle.rail_model.proofs.Ways.{missions_on}
use Rattle.table_exchange.specs.Tables.{AreTables}
use Rattle.track_layout.specs.Making.{layout_from}
use Rattle.track_layout.proofs.Taken.{taken as layouts_taken}
use Rattle.mission_table.specs.Roster.{AreTrains, trains_from}
use Rattle.mission_table.proofs.Taken.{trains_taken, missions_formed}
use Rattle.section_marks.proofs.ConnectionsTaken.{connections_taken}
use Rattle.section_marks.proofs.Made.{table_of}
use Rattle.section_marks.proofs.SectionsTaken.{sections_taken}
use Rattle.legal_state.specs.Causes.{HasPair}
use Rattle.legal_state.proofs.Legality.{legal_from}
use Rattle.document_shapes.specs.Raw.{DocMembers, TableMembers, IsRead, IsOfVersion, members_of}
use Rattle.document_shapes.proofs.EachLemmas.{in_turn-ok, each-good, each-length, each-made}
use Rattle.document_shapes.proofs.Versions.{read-version}
use Rattle.document_json.specs.Doc.{Doc, DocTable, IsDoc, doc_table, table_at, offers_of, names_of}
use Rattle.document_json.specs.Keeps.{IsTaken}
use Rattle.document_json.specs.Members.{members_in, table_members_in}
use Rattle.document_json.specs.Reading.{doc_of, doc_from, tables_refusal, first_table}
use Rattle.document_json.specs.Tables.{refused_as, marks_of, exits_or_none, doc_table_of}
use Rattle.document_json.specs.Start.{out_of_range, meets, first_meeting, over_limit, illegality, start_refusal}
use Rattle.document_json.specs.declared.refused.DocRefused.TheVariants as refused
use Rattle.document_json.proofs.LayoutBack.{layout-made_of}
use Rattle.document_json.proofs.NamedLemmas.{members-are-read}
use Rattle.document_json.proofs.Offered.{offer_count, table_offered}
use Rattle.document_json.proofs.StartLemmas.{together}
use Rattle.document_json.proofs.TableBack.{IsDocTableOf, doc_table-made, doc_table-again, refused_as-ok}
use Rattle.document_json.proofs.Taken.{Makes, makes, made-of, tables-few}
use Rattle.document_json.proofs.TimesLemmas.{are_times}
use Rattle.document_json.proofs.WaysBack.{AreMadeOf, missions-made_of}

-- ---- a start that is not refused is legal

module _ (T : Table) (p : List ℕ) where
  in_place : (i : ℕ) → out_of_range T p i ≡ None → place p i ≤ last T i
  in_place i h = let test = then_some-none _ _ h in grind (arith, nat_tests)

  no_pair : (i : ℕ) → first_meeting T p i ≡ None → HasPair T p i → ⊥
  no_pair i h found =
      let pair = found.1 in
      let none = first_below-none (trains T) (meets T p i) h found.0 pair.0 in
      let clash = together T p i found.0 pair.2.0 pair pair.2.1 in
      cc

  not_over : (s : ℕ) → over_limit T p s ≡ None → IsOver T p s → ⊥
  not_over s h over = let test = then_some-none _ _ h in grind (arith, ints, over.1)

  start-legal : start_refusal T p ≡ None → Legal T p
  start-legal h =
      let a = option_or-none (then_some (not (length p == trains T)) (refused.StartLength (length p))) _ h in
      let b = option_or-none (option_map refused.Start (illegality T p)) None a.1 in
      let legal = option_map-none refused.Start (illegality T p) b.0 in
      let c = option_or-none (first_below (trains T) (out_of_range T p)) _ legal in
      let d = option_or-none (first_below (trains T) (first_meeting T p)) _ c.1 in
      let e = option_or-none (first_below (length T.sections) (over_limit T p)) None d.1 in
      legal_from T p (eqb-true _ _ (not-false _ (then_some-none _ _ a.0)))
      (λ i lt. in_place i (first_below-none (trains T) (out_of_range T p) c.0 i lt))
      (λ i pair. no_pair i (first_below-none (trains T) (first_meeting T p) d.0 i (omega (arith, pair.1.0, pair.1.1))) pair)
      (λ s over. not_over s (first_below-none (length T.sections) (over_limit T p) e.0 s over.0) over)

-- ---- the document

abbrev pub no_table : DocTable
no_table = record { table = record { missions = []; sections = []; connections = [] }; after = 0; times = []; nodes = [] }

-- Members of a version make the table.
abbrev pub IsMade : Layout → ℕ → ℕ → ℕ → DocTable → Type 0
IsMade L n version t y = (x : TableMembers) × IsOfVersion version x × IsDocTableOf version L n t x y

module _ (m : DocMembers) (D : Doc) (made : Makes m D) (of : All (IsOfVersion m.version) m.tables) where
  abbrev n : ℕ
  n = length D.trains

  count : length D.tables ≡ length m.tables
  count = each-length (doc_table_of m.version D.layout n) 0 m.tables D.tables made.tabled.made

  pub few : (0 < length D.tables) × (length D.tables ≤ 16)
  few = tables-few (length D.tables) (ap tables_refusal count ∙ made.tabled.counted)

  pub from : (t : ℕ) → t < length D.tables → IsMade D.layout n D.version t (doc_table D t)
  from t lt =
      subst (λ (p : ℕ × ℕ). IsMade D.layout n p.0 p.1 (doc_table D t)) (λ i. (made.version_is i, zero-add t i))
      (each-good (doc_table_of m.version D.layout n) (IsOfVersion m.version) (IsMade D.layout n m.version)
      (λ k x y is h. (x, is, doc_table-made m.version D.layout n k x y h)) 0 m.tables D.tables of made.tabled.made t no_table lt)

  layout : IsLayout D.layout
  layout = ((layouts_taken m.points m.links m.zones D.layout).0 made.tabled.layout).1

  named : (D.trains ≡ m.trains) × AreTrains D.trains
  named = let found = (trains_taken m.trains D.trains).0 made.tabled.trains_are in (found.0, subst AreTrains (sym found.0) found.1)

  ways : (t : ℕ) (lt : t < length D.tables) → AreMadeOf D.layout (table_at D t).missions n (from t lt).0.missions (exits_or_none n (from t lt).0.exits)
  ways t lt = let x = from t lt in missions-made_of D.layout n x.0.missions (exits_or_none n x.0.exits) (table_at D t).missions x.2.table.missions

  pub on_layout : (t : ℕ) → t < length D.tables → IsOn D.layout (table_at D t)
  on_layout t lt = missions_on D.layout (table_at D t) (ways t lt).of_layout

  table_formed : (t : ℕ) → t < length D.tables → IsTable (table_at D t)
  table_formed t lt =
      let x = from t lt in
      let T = table_at D t in
      let plain = table_of T.missions T.sections in
      let missions = missions_formed D.layout n x.0.missions (exits_or_none n x.0.exits) T.missions layout named.1.few x.2.table.missions in
      let sections = (sections_taken (marks_of D.version) T.missions T.sections plain missions).0 x.2.table.sections in
      ((connections_taken plain T T.connections sections.1).0 x.2.table.connections).1

  tables_are : AreTables (offers_of D)
  tables_are = record {
    some = omega (arith, offer_count D, few.0);
    few = omega (arith, offer_count D, few.1);
    same = λ t lt.
        let within = subst (λ k. t < k) (offer_count D) lt in
        ap trains (table_offered D t within) ∙ (ways t within).counted ∙ sym (ap trains (table_offered D 0 few.0) ∙ (ways 0 few.0).counted);
  }

  doc_is : IsDoc D
  doc_is = record {
    layout = layout;
    names = record { few_points = rw length-map layout.few_points; few_trains = named.1.few; points = layout.named; trains = named.1.named };
    tables = tables_are;
    formed = table_formed;
    trains = λ t lt. (ways t lt).counted;
    points = on_layout;
    times = λ t lt. are_times t (table_at D t) (doc_table D t).times (from t lt).2.times;
    start = start-legal (table_at D 0) D.start made.start;
  }

  -- with other tables, and in another version, nothing is refused, where each table is made and the start is not refused
  pub again : (version : ℕ) (zs : List DocTable) → length zs ≡ length D.tables → ((t : ℕ) → t < length D.tables → IsMade D.layout n version t (slice_index_or zs t no_table))
      → start_refusal (first_table zs).table D.start ≡ None → IsTaken (record D { version = version; tables = zs })
  again version zs same each start =
      let E : Doc = record D { version = version; tables = zs } in
      let back = layout-made_of m.points m.links m.zones D.layout made.tabled.layout in
      let all : Makes (members_in E) E =
      record {
        tabled = record {
          layout = (λ i. layout_from (back.points_are i) (back.links_are i) (back.zones_are i)) ∙ made.tabled.layout;
          trains_are = ap trains_from named.0 ∙ made.tabled.trains_are;
          counted = ap tables_refusal (length-map zs (table_members_in version (names_of D)) ∙ same ∙ count) ∙ made.tabled.counted;
          made = each-made (doc_table_of version D.layout n) (table_members_in version (names_of D)) 0 zs no_table
              (λ t i lt is.
              let x = each t (omega (arith, lt, same)) in
              let y = slice_index_or zs t no_table in
              subst (λ k. doc_table_of version D.layout n k (table_members_in version (names_of D) y) ≡ Ok y) (sym (is ∙ zero-add t))
              (doc_table-again version D.layout n t (names_of D) refl x.0 x.1 y x.2));
        };
        start = start;
        version_is = refl;
        start_is = refl;
      } in
      made-of (members_in E) E all

-- A document that is formed, and of whose own members nothing is refused.
pub record IsFormed (D : Doc) : Type 0 where
  pub is : IsDoc D
  pub taken : IsTaken D
  pub first : 1 ≤ D.version
  pub last : D.version ≤ 3

pub formed-from : (m : DocMembers) (D : Doc) → IsRead m → doc_from m ≡ Ok D → IsFormed D
formed-from m D read h =
    let made = makes m D h in
    record {
      is = doc_is m D made read.tables;
      taken = again m D made read.tables D.version D.tables refl (from m D made read.tables) made.start;
      first = subst (λ v. 1 ≤ v) made.version_is read.first;
      last = subst (λ v. v ≤ 3) made.version_is read.last;
    }

-- a document that bytes are
pub read-is-formed : (bytes : List ℕ) (D : Doc) → doc_of bytes ≡ Ok D → IsFormed D
unfolding doc_of
read-is-formed bytes D h =
    let given = in_turn-ok (refused_as refused.Shape (members_of bytes)) doc_from D h in
    formed-from given.value D (read-version bytes given.value (refused_as-ok refused.Shape (members_of bytes) given.value given.first)) given.behind

-- a document that is taken
pub taken-is-formed : (D : Doc) → IsTaken D → 1 ≤ D.version → D.version ≤ 3 → IsFormed D
taken-is-formed D taken first last = formed-from (members_in D) D (members-are-read D first last) taken
