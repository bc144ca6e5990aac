-- A table of a document gives back the members that it was made of.
use Rattle.std.proofs.Common.{◌≡◌, ◌∙◌, ℕ, ◌<◌, Bool, List, [], map, Option, None, Result, Ok, Err, refl, sym, ap, ap₂, subst, inl, inr, get_or}
use Rattle.std.specs.Prelude.{unwrap_or}
use Rattle.std.proofs.lemmas.Bool.Decides.{leb_tells}
use Rattle.rail_model.specs.Layout.{Layout, point_names}
use Rattle.rail_model.specs.Names.{Names}
use Rattle.rail_model.specs.Table.{Table, Mission, Connection}
use Rattle.rail_model.proofs.Firsts.{unless-ok}
use Rattle.mission_table.specs.Ways.{missions_from}
use Rattle.section_marks.specs.Marking.{table_from}
use Rattle.section_marks.specs.Connecting.{connected}
use Rattle.section_marks.proofs.Made.{table_of as marked}
use Rattle.document_shapes.specs.Raw.{TableMembers, IsOfVersion}
use Rattle.document_shapes.proofs.EachLemmas.{in_turn-ok}
use Rattle.document_json.specs.Doc.{DocTable}
use Rattle.document_json.specs.Members.{from_version, way_names, table_members_in}
use Rattle.document_json.specs.Tables.{refused_as, marks_of, exits_or_none, after_refusal, times_refusal, table_of, doc_table_of}
use Rattle.document_json.specs.declared.refused.DocRefused.{DocRefused}
use Rattle.document_json.specs.declared.refused.DocRefused.TheVariants as refused
use Rattle.document_json.proofs.WaysBack.{missions-made_of}

pub refused_as-ok : {A E : Type 0} (f : E → DocRefused) (r : Result A E) (a : A) → refused_as f r ≡ Ok a → r ≡ Ok a
refused_as-ok f (Ok x) a h = let same : x ≡ a = cc in ap Ok same
refused_as-ok f (Err e) a h = absurd cc

module _ (version : ℕ) (L : Layout) (n t : ℕ) where
  -- What the makers make of the members.
  pub record IsTableOf (m : TableMembers) (T : Table) : Type 0 where
    pub missions : missions_from L n m.missions (exits_or_none n m.exits) ≡ Ok T.missions
    pub sections : table_from (marks_of version) T.missions T.sections ≡ Ok (marked T.missions T.sections)
    pub connections : connected (marked T.missions T.sections) T.connections ≡ Ok T
    pub connections_are : T.connections ≡ unwrap_or m.connections []

  table-made : (m : TableMembers) (T : Table) → table_of version L n t m ≡ Ok T → IsTableOf m T
  unfolding table_from connected
  table-made m T h =
      let S = unwrap_or m.sections [] in
      let C = unwrap_or m.connections [] in
      let a = in_turn-ok _ _ T h in
      let b = in_turn-ok _ _ T a.behind in
      let second = refused_as-ok (refused.Marks t) (table_from (marks_of version) a.value S) b.value b.first in
      let third = refused_as-ok (refused.Marks t) (connected b.value C) T b.behind in
      let plain = unless-ok _ (marked a.value S) b.value second in
      let joined = unless-ok _ (record b.value { connections = C }) T third in
      let whole : record (marked a.value S) { connections = C } ≡ T = ap (λ (T0 : Table). record T0 { connections = C }) plain.1 ∙ joined.1 in
      let made : IsTableOf m (record (marked a.value S) { connections = C }) =
      record {
        missions = refused_as-ok (refused.Missions t) _ a.value a.first;
        sections = second ∙ ap Ok (sym plain.1);
        connections = ap (λ T0. connected T0 C) plain.1 ∙ third ∙ ap Ok (sym whole);
        connections_are = refl;
      } in
      subst (IsTableOf m) whole made

  -- What the members make is a table of the document with its times.
  pub record IsDocTableOf (m : TableMembers) (y : DocTable) : Type 0 where
    pub due : after_refusal t y.after ≡ None
    pub table : IsTableOf m y.table
    pub times : times_refusal t y.table y.times ≡ None

  pub doc_table-made : (m : TableMembers) (y : DocTable) → doc_table_of version L n t m ≡ Ok y → IsDocTableOf m y
  doc_table-made m y h =
      let a = in_turn-ok _ _ y h in
      let b = in_turn-ok _ _ y a.behind in
      let c = in_turn-ok _ _ y b.behind in
      let due = unless-ok _ _ a.value a.first in
      let on_time = unless-ok _ _ c.value c.first in
      let made : IsDocTableOf m (record { table = b.value; after = a.value; times = c.value; nodes = unwrap_or m.certificate [] }) =
      record {
        due = ap (after_refusal t) (sym due.1) ∙ due.0;
        table = table-made m b.value b.first;
        times = ap (times_refusal t b.value) (sym on_time.1) ∙ on_time.0;
      } in
      let end = c.behind in
      subst (IsDocTableOf m) (cc end) made

  exits_again : (exits : List Bool) (given : Option (List Bool)) → exits ≡ exits_or_none n given → (version < 2 → given ≡ None)
      → exits_or_none n (from_version 2 version exits) ≡ exits_or_none n given
  exits_again exits given same older = elim (leb_tells 2 version) [ inl new ↦ rw new.0 same | inr old ↦ rw (old.0, older old.1) refl ]

  connections_again : (links : List Connection) (given : Option (List Connection)) → links ≡ unwrap_or given [] → (version < 3 → given ≡ None)
      → unwrap_or (from_version 3 version links) [] ≡ links
  connections_again links given same older = elim (leb_tells 3 version) [
    | inl new ↦ rw new.0 refl
    | inr old ↦ rw old.0 (sym (same ∙ ap (λ g. unwrap_or g []) (older old.1)))
  ]

  -- members in the document's own words make it again
  pub doc_table-again : (N : Names) → N.points ≡ point_names L → (m : TableMembers) → IsOfVersion version m → (y : DocTable) → IsDocTableOf m y
      → doc_table_of version L n t (table_members_in version N y) ≡ Ok y
  doc_table-again N named m read y made =
      let T = y.table in
      let back = missions-made_of L n m.missions (exits_or_none n m.exits) T.missions made.table.missions in
      let missions : missions_from L n (map (way_names N) T.missions) (exits_or_none n (from_version 2 version (map (λ m. m.exits) T.missions))) ≡ Ok T.missions =
      ap₂ (missions_from L n) (ap (λ ps. map (λ (w : Mission). map (λ q. get_or ps q []) w.points) T.missions) named ∙ back.ways_are)
      (exits_again (map (λ m. m.exits) T.missions) m.exits back.exits_are read.exits)
      ∙ made.table.missions in
      let links = connections_again T.connections m.connections made.table.connections_are read.connections in
      rw (made.due, missions, made.table.sections, links, made.table.connections, made.times) refl
