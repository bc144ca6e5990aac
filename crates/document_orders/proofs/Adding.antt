-- A document whose tables get sections that keep orders.
use Rattle.std.proofs.Common.{◌≡◌, false, ℕ, ◌<◌, List, [], length, map, Ok, sym, ap, ◌∙◌, subst, arith}
use Rattle.std.specs.Prelude.{◌==◌}
use Rattle.std.proofs.lemmas.List.{length-map}
use Rattle.rail_model.specs.Certificate.{Tree, arrived}
use Rattle.rail_model.specs.State.{Legal}
use Rattle.rail_model.specs.Table.{Table, Section, IsTable, trains}
use Rattle.rail_model.specs.Yard.{Offer, offer}
use Rattle.document_json.specs.Doc.{Doc, DocTable, IsDoc, nodes_at, offers_of, table_at as doc_table_at}
use Rattle.document_json.specs.Keeps.{IsTaken}
use Rattle.document_json.specs.Migrated.{IsMigrated}
use Rattle.document_json.specs.Reading.{doc_of}
use Rattle.document_json.specs.Replaced.{each_with, exchanged, new_table, replaced}
use Rattle.document_json.specs.Written.{written}
use Rattle.document_json.proofs.FormedDoc.{no_table}
use Rattle.document_json.proofs.MoreSections.{is_taken}
use Rattle.document_json.proofs.Remade.{length-each_with, each_with-at}
use Rattle.reached_states.specs.Reached.{offered}
use Rattle.order_sections.specs.Found.{HaveSameTrains}
use Rattle.order_sections.specs.Grids.{table_at}
use Rattle.order_sections.specs.Orders.{AddsOrders, SameOffers, with_more}
use Rattle.order_sections.proofs.Reaching.{kept_opening, legal_with}
use Rattle.document_orders.specs.Ordered.{IsOrdered, KeepsTree, new_tree}
use Rattle.document_orders.proofs.Offering.{offer_from, table_there, after_there, listed_there, new_there, listed_is, each_table, are_offered}

-- Tables with sections were found for those of a document, and come with certificates.
pub record AreFound (E : Doc) (tables made : List Table) (parts : List (Table × Tree)) : Type 0 where
  pub is : IsDoc E
  pub tables_are : tables ≡ map (λ t. t.table) E.tables
  pub count : length made ≡ length tables
  pub formed : (t : ℕ) → t < length tables → IsTable (table_at made t)
  pub adds : AddsOrders (length tables) (table_at tables) (table_at made) E.start
  pub parts_are : map (λ p. p.0) parts ≡ made

module _ (E : Doc) (tables made : List Table) (parts : List (Table × Tree)) (h : AreFound E tables made parts) where
  abbrev n : ℕ
  n = length E.tables

  tables_count : length tables ≡ n
  tables_count = ap length h.tables_are ∙ length-map E.tables (λ (t : DocTable). t.table)

  pub one_each : length parts ≡ n
  one_each = sym (length-map parts (λ (p : Table × Tree). p.0)) ∙ ap length h.parts_are ∙ h.count ∙ tables_count

  old_is : table_at tables ≡ offered (offers_of E)
  old_is = ap table_at h.tables_are ∙ listed_is E.tables

  new_is : table_at made ≡ offered (offers_of (replaced E parts))
  new_is = ap table_at (sym h.parts_are ∙ sym (each_table E.tables parts one_each)) ∙ listed_is (each_with exchanged E.tables parts)

  offers_count : length (offers_of E) ≡ n
  offers_count = length-map E.tables offer_from

  added : AddsOrders (length (offers_of E)) (offered (offers_of E)) (offered (offers_of (replaced E parts))) E.start
  added =
      subst (λ (f : ℕ → Table). AddsOrders (length (offers_of E)) (offered (offers_of E)) f E.start) new_is
      (subst (λ (f : ℕ → Table). AddsOrders (length (offers_of E)) f (table_at made) E.start) old_is
      (subst (λ (k : ℕ). AddsOrders k (table_at tables) (table_at made) E.start) (tables_count ∙ sym offers_count) h.adds))

  same_after : (t : ℕ) → t < n → (offer (offers_of (replaced E parts)) t).after ≡ (offer (offers_of E) t).after
  same_after t lt =
      after_there (each_with exchanged E.tables parts) t
      ∙ ap (λ (x : DocTable). x.after) (each_with-at exchanged E.tables parts t no_table no_table (record { missions = []; sections = []; connections = [] }, arrived) one_each lt)
      ∙ sym (after_there E.tables t)

  pub same_offers : SameOffers (offers_of E) (offers_of (replaced E parts)) E.start
  same_offers = record {
    count = length-map (each_with exchanged E.tables parts) offer_from ∙ length-each_with exchanged E.tables parts one_each ∙ sym offers_count;
    due = λ t lt. same_after t (omega (arith, lt, offers_count));
    added = added;
  }

  -- the table that comes with a number is the one that was found
  new_at : (t : ℕ) → new_table parts t ≡ table_at made t
  new_at t = sym (new_there parts t) ∙ ap (λ (ts : List Table). table_at ts t) h.parts_are

  more_at : (t : ℕ) → t < n → (more : List Section) × (new_table parts t ≡ with_more (doc_table_at E t) more)
  more_at t lt =
      let added = h.adds.adds t (omega (arith, lt, tables_count)) in
      (added.0, new_at t ∙ added.1 ∙ ap (λ (T : Table). with_more T added.0) (ap (λ (ts : List Table). table_at ts t) h.tables_are ∙ listed_there E.tables t))

  start_legal : Legal (new_table parts 0) E.start
  start_legal =
      subst (λ (T : Table). Legal T E.start) (ap (λ (f : ℕ → Table). f 0) (sym new_is) ∙ sym (new_at 0))
      (legal_with (offers_of E) (offered (offers_of (replaced E parts))) E.start 0 E.start (are_offered E h.is) added (kept_opening (offers_of E) E.start (are_offered E h.is)).within)

  pub replaced_is_taken : IsTaken E → (E.version == 1) ≡ false → IsTaken (replaced E parts)
  replaced_is_taken taken later =
      is_taken E taken later parts one_each
      (λ t lt. subst IsTable (sym (new_at t)) (h.formed t (omega (arith, lt, tables_count)))) more_at start_legal

-- the tables of a document are all of the same trains
pub same_trains : (E : Doc) (tables : List Table) → IsDoc E → tables ≡ map (λ t. t.table) E.tables → HaveSameTrains tables E.start
same_trains E tables is tables_are = subst (λ (ts : List Table). HaveSameTrains ts E.start) (sym tables_are) (record {
  some = omega (arith, is.tables.some, length-map E.tables (λ (t : DocTable). t.table), length-map E.tables offer_from);
  same = λ t lt.
      let within = is.tables.same t (omega (arith, lt, length-map E.tables (λ (x : DocTable). x.table), length-map E.tables offer_from)) in
      ap trains (listed_there E.tables t ∙ sym (table_there E.tables t)) ∙ within ∙ ap trains (table_there E.tables 0 ∙ sym (listed_there E.tables 0));
  one_each = is.start.one_each ∙ ap trains (sym (listed_there E.tables 0));
})

-- what is added to the document in a later version is added to the document
pub offers_back : (D E : Doc) (new : List Offer) → IsMigrated D E → SameOffers (offers_of E) new E.start → SameOffers (offers_of D) new D.start
offers_back D E new m same =
    subst (λ (p : List ℕ). SameOffers (offers_of D) new p) m.start
    (subst (λ (ts : List DocTable). SameOffers (map offer_from ts) new E.start) m.tables same)

-- the text of the document with tables that were found for it in a later version
pub is_ordered : (D E : Doc) (tables made : List Table) (parts : List (Table × Tree)) (text : List ℕ) → AreFound E tables made parts → IsMigrated D E
    → ((t : ℕ) → t < length D.tables → KeepsTree (nodes_at D t) (new_tree parts t)) → text ≡ written (replaced E parts)
    → doc_of text ≡ Ok (replaced E parts) → IsOrdered D text
is_ordered D E tables made parts text found m trees is reads = record {
  later = E;
  parts = parts;
  adds = record { migrated = m; orders = offers_back D E (offers_of (replaced E parts)) m (same_offers E tables made parts found); trees = trees };
  is_text = is;
  reads_back = reads;
}
