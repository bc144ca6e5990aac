-- Nothing of a document of version 2 or later is refused where its tables have more sections behind their own, as long as they are tables.
use Rattle.std.proofs.Common.{◌≡◌, ◌∙◌, true, false, ℕ, ◌<◌, List, [], ◌++◌, length, get_or, Ok, refl, sym, ap, subst}
use Rattle.std.specs.Prelude.{◌==◌, if◌then◌else◌}
use Rattle.rail_model.specs.Certificate.{Tree, arrived}
use Rattle.rail_model.specs.State.{Legal}
use Rattle.rail_model.specs.Table.{Table, Section, IsTable}
use Rattle.section_marks.specs.Keeping.{KeepsTo}
use Rattle.section_marks.specs.declared.marks.Marks.TheVariants.{One, Four}
use Rattle.document_json.specs.Doc.{Doc, doc_table, table_at}
use Rattle.document_json.specs.Keeps.{IsTaken}
use Rattle.document_json.specs.Members.{members_in}
use Rattle.document_json.specs.Migrated.{IsMigrated, later_version}
use Rattle.document_json.specs.Replaced.{each_with, exchanged, new_table, replaced}
use Rattle.document_json.specs.Start.{start_refusal}
use Rattle.document_json.specs.Tables.{marks_of, times_refusal}
use Rattle.document_json.proofs.FormedDoc.{IsMade, again, few, from, no_table}
use Rattle.document_json.proofs.NamedLemmas.{of-version}
use Rattle.document_json.proofs.StartLemmas.{illegality-none, start-none}
use Rattle.document_json.proofs.Taken.{makes}
use Rattle.document_json.proofs.Marked.{sections-kept, connections-kept}
use Rattle.document_json.proofs.Remade.{length-each_with, each_with-at}

-- a later version isn't the first
later_is_not_first : (v : ℕ) → (later_version v == 1) ≡ false
later_is_not_first v = elim (v == 1) as (λ b. (v == 1) ≡ b → ((if b then 2 else v) == 1) ≡ false) [ true ↦ λ e. refl | false ↦ λ e. e ] refl

-- a table keeps to the limits and shares of a version that isn't the first
marked : (version : ℕ) (T : Table) → (version == 1) ≡ false → IsTable T → KeepsTo (marks_of version) T
marked version T later formed =
    subst (λ b. KeepsTo (if b then One else Four) T) (sym later)
    (record { limits = λ s lt. (formed.sections s lt).low_limit; shares = λ s i k lt train within. (formed.sections s lt).not_above i k train within })

-- a document in a later version isn't of the first
pub version_back : (D E : Doc) → IsMigrated D E → (E.version == 1) ≡ false
version_back D E m = ap (λ v. v == 1) m.later ∙ later_is_not_first D.version

-- a table with more sections behind its own
abbrev with_more : Table → List Section → Table
with_more T more = record { missions = T.missions; sections = T.sections ++ more; connections = T.connections }

module _ (D : Doc) (taken : IsTaken D) (later : (D.version == 1) ≡ false) (parts : List (Table × Tree)) (same : length parts ≡ length D.tables)
    (formed : (t : ℕ) → t < length D.tables → IsTable (new_table parts t))
    (adds : (t : ℕ) → t < length D.tables → (more : List Section) × (new_table parts t ≡ with_more (table_at D t) more))
    (start : Legal (new_table parts 0) D.start) where
  own : (t : ℕ) → t < length D.tables → IsMade D.layout (length D.trains) D.version t (doc_table D t)
  own = from (members_in D) D (makes (members_in D) D taken) (of-version D)

  abbrev none : Table × Tree
  none = (record { missions = []; sections = []; connections = [] }, arrived)

  -- the table with its sections is made as the one without them
  is_made : (t : ℕ) → t < length D.tables → IsMade D.layout (length D.trains) D.version t (exchanged (doc_table D t) (get_or parts t none))
  is_made t lt =
      let x = own t lt in
      let T : Table = new_table parts t in
      let missions : T.missions ≡ (table_at D t).missions = ap (λ (U : Table). U.missions) (adds t lt).1 in
      let connections : T.connections ≡ (table_at D t).connections = ap (λ (U : Table). U.connections) (adds t lt).1 in (
        x.0,
        x.1,
        record {
          due = x.2.due;
          table = record {
            missions = x.2.table.missions ∙ ap Ok (sym missions);
            sections = sections-kept T (formed t lt) (marks_of D.version) (marked D.version T later (formed t lt));
            connections = connections-kept T (formed t lt);
            connections_are = connections ∙ x.2.table.connections_are;
          };
          times = ap (λ ms. times_refusal t (record T { missions = ms }) (doc_table D t).times) missions ∙ x.2.times;
        },
      )

  pub is_taken : IsTaken (replaced D parts)
  is_taken =
      let made = makes (members_in D) D taken in
      let at = λ (t : ℕ) (lt : t < length D.tables). each_with-at exchanged D.tables parts t no_table no_table none same lt in
      again (members_in D) D made (of-version D) D.version (each_with exchanged D.tables parts) (length-each_with exchanged D.tables parts same)
      (λ t lt. subst (IsMade D.layout (length D.trains) D.version t) (sym (at t lt)) (is_made t lt))
      (ap (λ z. start_refusal z.table D.start) (at 0 (few (members_in D) D made (of-version D)).0)
      ∙ start-none (new_table parts 0) D.start start.one_each (illegality-none (new_table parts 0) D.start start))
