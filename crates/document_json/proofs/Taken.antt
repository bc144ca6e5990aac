-- The document of members, part by part.
use Rattle.std.proofs.Common.{◌≡◌, ◌∙◌, ◌⊎◌, ℕ, ◌<◌, ◌≤◌, List, length, get_or, None, Ok, Err, refl, ap, subst, arith, inl, inr}
use Rattle.std.proofs.lemmas.Bool.Decides.{nat_tests}
use Rattle.rail_model.specs.Layout.{Layout, point_names}
use Rattle.rail_model.specs.Names.{Names}
use Rattle.rail_model.specs.Table.{Table}
use Rattle.rail_model.specs.Turns.{unless}
use Rattle.rail_model.proofs.Firsts.{then_some-none, unless-ok, unless-err}
use Rattle.track_layout.specs.Making.{layout_from}
use Rattle.mission_table.specs.Roster.{trains_from}
use Rattle.document_shapes.specs.Each.{each_from}
use Rattle.document_shapes.specs.Raw.{DocMembers, TableMembers}
use Rattle.document_shapes.proofs.EachLemmas.{in_turn-ok, each-length}
use Rattle.document_json.specs.Doc.{Doc, DocTable}
use Rattle.document_json.specs.Keeps.{Untimed, timed, doc_of_parts}
use Rattle.document_json.specs.Reading.{doc_from, tables_refusal, first_table}
use Rattle.document_json.specs.Start.{start_refusal}
use Rattle.document_json.specs.Tables.{refused_as, doc_table_of}
use Rattle.document_json.specs.declared.refused.DocRefused.{DocRefused}
use Rattle.document_json.specs.declared.refused.DocRefused.TheVariants as refused
use Rattle.document_json.proofs.TableBack.{refused_as-ok}
use Rattle.document_json.proofs.Timed.{length-timed, timed-at}

-- What came of the members before the start was looked at.
pub record IsTabled (m : DocMembers) (L : Layout) (trains : List (List ℕ)) (tables : List DocTable) : Type 0 where
  pub layout : layout_from m.points m.links m.zones ≡ Ok L
  pub trains_are : trains_from m.trains ≡ Ok trains
  pub counted : tables_refusal (length m.tables) ≡ None
  pub made : each_from (doc_table_of m.version L (length trains)) 0 m.tables ≡ Ok tables

-- Members make the document, part by part.
pub record Makes (m : DocMembers) (D : Doc) : Type 0 where
  pub tabled : IsTabled m D.layout D.trains D.tables
  pub start : start_refusal (first_table D.tables).table D.start ≡ None
  pub version_is : m.version ≡ D.version
  pub start_is : m.start ≡ D.start

pub is-tabled : (m : DocMembers) (L : Layout) (trains : List (List ℕ)) (listed : List TableMembers) (tables : List DocTable)
    → refused_as refused.Layout (layout_from m.points m.links m.zones) ≡ Ok L → refused_as refused.Trains (trains_from m.trains) ≡ Ok trains
    → unless (tables_refusal (length m.tables)) m.tables ≡ Ok listed → each_from (doc_table_of m.version L (length trains)) 0 listed ≡ Ok tables → IsTabled m L trains tables
is-tabled m L trains listed tables layout names counted made =
    let all = unless-ok (tables_refusal (length m.tables)) m.tables listed counted in
    record {
      layout = refused_as-ok refused.Layout (layout_from m.points m.links m.zones) L layout;
      trains_are = refused_as-ok refused.Trains (trains_from m.trains) trains names;
      counted = all.0;
      made = ap (each_from (doc_table_of m.version L (length trains)) 0) all.1 ∙ made;
    }

-- where the members make a document, each part was made
pub makes : (m : DocMembers) (D : Doc) → doc_from m ≡ Ok D → Makes m D
makes m D h =
    let a = in_turn-ok _ _ D h in
    let b = in_turn-ok _ _ D a.behind in
    let c = in_turn-ok _ _ D b.behind in
    let d = in_turn-ok _ _ D c.behind in
    let last = unless-ok _ _ D d.behind in
    let made : Makes m (record { version = m.version; layout = a.value; trains = b.value; tables = d.value; start = m.start }) =
    record {
      tabled = is-tabled m a.value b.value c.value d.value a.first b.first c.first d.first;
      start = last.0;
      version_is = refl;
      start_is = refl;
    } in
    subst (Makes m) last.1 made

-- and parts that were made make the document
pub made-of : (m : DocMembers) (D : Doc) → Makes m D → doc_from m ≡ Ok D
made-of m D h = rw (h.tabled.layout, h.tabled.trains_are, h.tabled.counted, h.tabled.made, h.start_is, h.start, h.version_is) refl

pub tables-few : (count : ℕ) → tables_refusal count ≡ None → (0 < count) × (count ≤ 16)
tables-few count h = let test = then_some-none _ _ h in (grind (arith, nat_tests), grind (arith, nat_tests))

-- ---- the document of these parts, which the start decides

module _ (m : DocMembers) (L : Layout) (trains : List (List ℕ)) (ts : List Untimed) (xs : List (List (List ℕ))) (same : length ts ≡ length xs)
    (tabled : IsTabled m L trains (timed ts xs)) where
  pub some-table : 0 < length ts
  some-table =
      let few = tables-few (length m.tables) tabled.counted in
      omega (arith, few.0, each-length (doc_table_of m.version L (length trains)) 0 m.tables (timed ts xs) tabled.made, length-timed ts xs same)

  start-decides : (T : Table) (u : Untimed) → T ≡ u.table → u ≡ get_or ts 0 u
      → doc_from m ≡ unless (start_refusal T m.start) (record { version = m.version; layout = L; trains = trains; tables = timed ts xs; start = m.start })
  start-decides T u of is =
      let first : T ≡ (first_table (timed ts xs)).table = of ∙ (timed-at ts xs 0 u _ same some-table is).table in
      rw (first, tabled.layout, tabled.trains_are, tabled.counted, tabled.made) refl

  -- a start that is refused
  pub doc-refused : (T : Table) (u : Untimed) (e : DocRefused) → T ≡ u.table → u ≡ get_or ts 0 u → (e ≡ refused.Memory) ⊎ (unless (start_refusal T m.start) m.start ≡ Err e)
      → (e ≡ refused.Memory) ⊎ (doc_from m ≡ Err e)
  doc-refused T u e of is h = elim h [
    | inl memory ↦ inl memory
    | inr bad ↦ inr (start-decides T u of is ∙ rw (unless-err _ m.start e bad) refl)
  ]

  -- a start that is legal
  pub doc-made : (N : Names) (T : Table) (u : Untimed) (start : List ℕ) → N ≡ record { points = point_names L; trains = trains } → T ≡ u.table → u ≡ get_or ts 0 u
      → unless (start_refusal T m.start) m.start ≡ Ok start → doc_from m ≡ Ok (doc_of_parts m.version L N ts xs start)
  doc-made N T u start named of is taken =
      let good = unless-ok (start_refusal T m.start) m.start start taken in
      start-decides T u of is ∙ rw (named, ← good.1, good.0) refl
