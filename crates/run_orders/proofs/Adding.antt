-- A document whose tables get more sections, and nothing of which is refused.
use Rattle.std.proofs.Common.{◌≡◌, false, ℕ, ◌<◌, List, length, map, Result, Ok, Err, sym, ap, ◌∙◌, subst, arith}
use Rattle.std.specs.Prelude.{◌==◌, IfOk}
use Rattle.std.proofs.lemmas.List.{length-map}
use Rattle.rail_model.specs.Certificate.{Tree}
use Rattle.rail_model.specs.Journal.{Journal, IsWhole}
use Rattle.rail_model.specs.State.{Legal}
use Rattle.rail_model.specs.Table.{Table, Section, IsTable}
use Rattle.rail_model.specs.Yard.{opening}
use Rattle.document_json.specs.Doc.{Doc, DocTable, nodes_at, offers_of, table_at as doc_table_at}
use Rattle.document_json.specs.Keeps.{IsTaken}
use Rattle.document_json.specs.Migrated.{IsMigrated}
use Rattle.document_json.specs.Reading.{doc_of}
use Rattle.document_json.specs.Replaced.{new_table, replaced}
use Rattle.document_json.specs.Written.{written}
use Rattle.document_json.proofs.MoreSections.{is_taken}
use Rattle.order_sections.specs.Grids.{table_at}
use Rattle.order_sections.specs.Orders.{with_more}
use Rattle.document_orders.specs.Ordered.{KeepsTree, new_tree}
use Rattle.document_orders.proofs.Offering.{listed_there, new_there}
use Rattle.run_orders.specs.RunOrdered.{HaveMore, IsOrderedByRun}

-- tables with more sections than those of the document, which were taken out of it
pub have_more : (E : Doc) (tables made : List Table) → tables ≡ map (λ t. t.table) E.tables → length made ≡ length tables
    → ((t : ℕ) → t < length tables → IsTable (table_at made t))
    → ((t : ℕ) → t < length tables → (more : List Section) × (table_at made t ≡ with_more (table_at tables t) more))
    → Legal (table_at made 0) E.start → HaveMore E made
have_more E tables made are count formed adds start =
    record { one_each = count ∙ same; formed = λ t lt. formed t (omega (arith, lt, same)); more = more; start = start }
  where
    same : length tables ≡ length E.tables
    same = ap length are ∙ length-map E.tables (λ (t : DocTable). t.table)

    more : (t : ℕ) → t < length E.tables → (more : List Section) × (table_at made t ≡ with_more (doc_table_at E t) more)
    more t lt =
        let added = adds t (omega (arith, lt, same)) in
        (added.0, added.1 ∙ ap (λ (T : Table). with_more T added.0) (ap (λ (ts : List Table). table_at ts t) are ∙ listed_there E.tables t))

module _ (E : Doc) (made : List Table) (parts : List (Table × Tree)) (h : HaveMore E made) (parts_are : map (λ p. p.0) parts ≡ made) where
  pub one_each : length parts ≡ length E.tables
  one_each = sym (length-map parts (λ (p : Table × Tree). p.0)) ∙ ap length parts_are ∙ h.one_each

  -- the table that comes with a number is the one that was made
  new_at : (t : ℕ) → new_table parts t ≡ table_at made t
  new_at t = sym (new_there parts t) ∙ ap (λ (ts : List Table). table_at ts t) parts_are

  more_at : (t : ℕ) → t < length E.tables → (more : List Section) × (new_table parts t ≡ with_more (doc_table_at E t) more)
  more_at t lt = let added = h.more t lt in (added.0, new_at t ∙ added.1)

  pub replaced_is_taken : IsTaken E → (E.version == 1) ≡ false → IsTaken (replaced E parts)
  replaced_is_taken taken later =
      is_taken E taken later parts one_each (λ t lt. subst IsTable (sym (new_at t)) (h.formed t lt)) more_at
      (subst (λ (T : Table). Legal T E.start) (sym (new_at 0)) h.start)

  -- the text of the document with these tables, under which a run stays right
  pub is_ordered : (D M : Doc) (J : Journal) (text : List ℕ) → IsMigrated D E → M ≡ replaced E parts
      → ((t : ℕ) → t < length D.tables → KeepsTree (nodes_at D t) (new_tree parts t)) → IsWhole (offers_of M) (opening M.start) J
      → text ≡ written M → doc_of text ≡ Ok M → IsOrderedByRun D J text
  is_ordered D M J text migrated is trees whole is_text reads = record {
    later = E;
    parts = parts;
    adds = record { migrated = migrated; one_each = one_each; more = more_at; trees = trees };
    keeps_run = subst (λ (p : List ℕ). IsWhole (offers_of (replaced E parts)) (opening p) J) migrated.start
        (subst (λ (N : Doc). IsWhole (offers_of N) (opening N.start) J) is whole);
    is_text = is_text ∙ ap written is;
    reads_back = reads ∙ ap Ok is;
  }

-- what holds of a text that is given where another fact holds of it
pub if_given : {A E : Type 0} (P Q : A → Type 0) (r : Result A E) → ((a : A) → P a → Q a) → IfOk r P → IfOk r Q
if_given P Q (Ok a) so holds = so a holds
if_given P Q (Err e) so holds = tt
