-- Documents with other certificates, and with other sections, are taken.
use Rattle.std.specs.Prelude.{◌==◌, if◌then◌else◌}
use Rattle.std.proofs.lemmas.Int.{ints}
use Rattle.std.proofs.Common.{◌≡◌, ◌∙◌, true, false, ℕ, zero, suc, ◌+◌, ◌<◌, ◌≤◌, List, [], ◌∷◌, ◌++◌, length, map, take, get_or, All, None, Ok, refl, sym, ap, ap₂, subst, arith}
use Rattle.std.proofs.lemmas.List.{take_more, take_all, map-append}
use Rattle.rail_model.specs.Certificate.{Tree, arrived}
use Rattle.rail_model.specs.Table.{Table}
use Rattle.rail_model.specs.Ways.{IsOn}
use Rattle.section_marks.specs.Keeping.{KeepsTo}
use Rattle.section_marks.specs.declared.marks.Marks.TheVariants.{One, Four}
use Rattle.document_shapes.specs.Raw.{DocMembers, TableMembers as RawTable}
use Rattle.document_shapes.specs.Seen.{seen_table}
use Rattle.document_shapes.specs.declared.table.TableMembers.{TableMembers}
use Rattle.document_json.specs.Doc.{Doc, DocTable, doc_table, names_of}
use Rattle.document_json.specs.Keeps.{IsTaken, AreMembersOf}
use Rattle.document_json.specs.Members.{members_in, table_members_in, with_tables, in_version}
use Rattle.document_json.specs.Replaced.{each_with, exchanged, recertified, replaced, certified, new_table, IsLight, IsRemarked}
use Rattle.document_json.specs.Start.{start_refusal}
use Rattle.document_json.specs.Tables.{marks_of, times_refusal}
use Rattle.document_json.specs.Written.{AreNamed}
pub use Rattle.document_json.proofs.FormedDoc.{no_table}
use Rattle.document_json.proofs.FormedDoc.{IsMade, again, few, from, on_layout}
use Rattle.document_json.proofs.NamedLemmas.{of-version, ways-named, points-counted}
use Rattle.document_json.proofs.StartLemmas.{illegality-none, start-none}
use Rattle.document_json.proofs.Taken.{makes}
use Rattle.document_json.proofs.Marked.{sections-kept, connections-kept}

-- ---- each table with something else

module _ {X : Type 0} (f : DocTable → X → DocTable) where
  pub length-each_with : (ts : List DocTable) (xs : List X) → length xs ≡ length ts → length (each_with f ts xs) ≡ length ts
  length-each_with [] xs h = refl
  length-each_with (t ∷ ts) [] h = absurd (omega (arith, h))
  length-each_with (t ∷ ts) (x ∷ xs) h = ap suc (length-each_with ts xs (omega (arith, h)))

  pub each_with-at : (ts : List DocTable) (xs : List X) (k : ℕ) (e d : DocTable) (x : X) → length xs ≡ length ts → k < length ts
      → get_or (each_with f ts xs) k e ≡ f (get_or ts k d) (get_or xs k x)
  each_with-at [] xs k e d x h lt = absurd (omega (arith, lt))
  each_with-at (t ∷ ts) [] k e d x h lt = absurd (omega (arith, h))
  each_with-at (t ∷ ts) (y ∷ xs) zero e d x h lt = refl
  each_with-at (t ∷ ts) (y ∷ xs) (suc k) e d x h lt = each_with-at ts xs k e d x (omega (arith, h)) (omega (arith, lt))

-- the document's members, with those of other tables
pub members-of : (D : Doc) (zs : List DocTable) (m : DocMembers) (version : ℕ) (ts : List RawTable) → IsTaken (record D { tables = zs }) → version ≡ D.version → 1 ≤ version → version ≤ 3
    → m ≡ with_tables version ts (members_in D) → ts ≡ map (table_members_in D.version (names_of D)) zs → AreMembersOf (record D { tables = zs }) m
members-of D zs m version ts taken same first last is tables = record {
  are = is ∙ λ i. with_tables (same i) (tables i) (members_in D);
  first = subst (λ v. 1 ≤ v) same first;
  last = subst (λ v. v ≤ 3) same last;
  taken = taken;
}

-- the document's own members
pub own-members : (D : Doc) (m : DocMembers) (version : ℕ) → IsTaken D → version ≡ D.version → 1 ≤ version → version ≤ 3 → m ≡ members_in (in_version version D) → AreMembersOf D m
own-members D m version taken same first last is =
    members-of D D.tables m version (members_in (in_version version D)).tables taken same first last is (ap (λ v. map (table_members_in v (names_of D)) D.tables) same)

-- the members of tables, each with something else, are made one by one
module _ {X : Type 0} (f : DocTable → X → DocTable) (D : Doc) (xs : List X) (same : length xs ≡ length D.tables) where
  abbrev changed : List DocTable
  changed = each_with f D.tables xs

  abbrev put : DocTable → RawTable
  put = table_members_in D.version (names_of D)

  pub member-more : (old new : List TableMembers) (m : TableMembers) (i : ℕ) (x : X) → i < length D.tables → x ≡ get_or xs i x → seen_table m ≡ put (f (doc_table D i) x)
      → new ≡ old ++ m ∷ [] → map seen_table old ≡ map put (take i changed) → map seen_table new ≡ map put (take (i + 1) changed)
  member-more old new m i x lt at is added h =
      let z = f (doc_table D i) x in
      let there : get_or changed i z ≡ z = each_with-at f D.tables xs i z no_table x same lt ∙ ap (f (doc_table D i)) (sym at) in
      ap (map seen_table) added ∙ map-append seen_table old (m ∷ []) ∙ ap₂ (λ ms n. ms ++ n ∷ []) h (is ∙ ap put (sym there))
      ∙ sym (ap (map put) (take_more changed i z (omega (arith, lt, length-each_with f D.tables xs same))) ∙ map-append put (take i changed) (get_or changed i z ∷ []))

  pub member-all : (found : List TableMembers) (i : ℕ) → length D.tables ≤ i → map seen_table found ≡ map put (take i changed) → map seen_table found ≡ map put changed
  member-all found i done h = h ∙ ap (map put) (take_all i changed (omega (arith, done, length-each_with f D.tables xs same)))

  -- and where each is made, and the start is not refused, nothing is
  pub changed-is-taken : (taken : IsTaken D) (none : X) → ((t : ℕ) → t < length D.tables → IsMade D.layout (length D.trains) D.version t (f (doc_table D t) (get_or xs t none)))
      → start_refusal (f (doc_table D 0) (get_or xs 0 none)).table D.start ≡ None → IsTaken (record D { tables = changed })
  changed-is-taken taken none each start =
      let made = makes (members_in D) D taken in
      let at = λ (t : ℕ) (lt : t < length D.tables). each_with-at f D.tables xs t no_table no_table none same lt in
      again (members_in D) D made (of-version D) D.version changed (length-each_with f D.tables xs same)
      (λ t lt. subst (IsMade D.layout (length D.trains) D.version t) (sym (at t lt)) (each t lt))
      (ap (λ (z : DocTable). start_refusal z.table D.start) (at 0 (few (members_in D) D made (of-version D)).0) ∙ start)

module _ (D : Doc) (taken : IsTaken D) where
  own : (t : ℕ) → t < length D.tables → IsMade D.layout (length D.trains) D.version t (doc_table D t)
  own = from (members_in D) D (makes (members_in D) D taken) (of-version D)

  -- ---- other certificates

  -- with other certificates nothing is refused
  pub certified-is-taken : (certs : List Tree) → length certs ≡ length D.tables → IsTaken (certified D certs)
  certified-is-taken certs same =
      changed-is-taken recertified D certs same taken arrived
      (λ t lt. let x = own t lt in (x.0, x.1, record { due = x.2.due; table = x.2.table; times = x.2.times })) (makes (members_in D) D taken).start

  -- ---- other sections

  light-marked : (T : Table) → IsLight T → KeepsTo (marks_of D.version) T
  light-marked T h = elim (D.version == 1) as (λ b. KeepsTo (if b then One else Four) T) [
    | true ↦ record { limits = h.limits; shares = h.shares }
    | false ↦ record {
      limits = λ s lt. let low = h.limits s lt in omega (arith, low);
      shares = λ s i k lt train within. let low = h.shares s i k lt train within in grind (arith, ints, low);
    }
  ]

  -- with other sections nothing is refused, where they are light
  pub remarked-is-taken : (parts : List (Table × Tree)) → IsRemarked D parts → IsTaken (replaced D parts)
  remarked-is-taken parts h =
      changed-is-taken exchanged D parts h.one_each taken (record { missions = []; sections = []; connections = [] }, arrived)
      (λ t lt.
      let x = own t lt in
      let T : Table = new_table parts t in
      let missions = h.missions t lt in (
        x.0,
        x.1,
        record {
          due = x.2.due;
          table = record {
            missions = x.2.table.missions ∙ ap Ok (sym missions);
            sections = sections-kept T (h.formed t lt) (marks_of D.version) (light-marked T (h.light t lt));
            connections = connections-kept T (h.formed t lt);
            connections_are = h.connections t lt ∙ x.2.table.connections_are;
          };
          times = ap (λ ms. times_refusal t (record T { missions = ms }) (doc_table D t).times) missions ∙ x.2.times;
        },
      ))
      (start-none (new_table parts 0) D.start h.start.one_each (illegality-none (new_table parts 0) D.start h.start))

-- the ways of tables that are taken have names
pub parts-named : (D : Doc) (parts : List (Table × Tree)) → length parts ≡ length D.tables → IsTaken (replaced D parts) → All (λ p. All (AreNamed (names_of D)) p.0.missions) parts
parts-named D parts same taken k p lt =
    let E = replaced D parts in
    let within : k < length D.tables = omega (arith, lt, same) in
    let at = ap (λ (t : DocTable). t.table) (each_with-at exchanged D.tables parts k no_table no_table p same within) in
    let points = on_layout (members_in E) E (makes (members_in E) E taken) (of-version E) k (omega (arith, length-each_with exchanged D.tables parts same, within)) in
    ways-named (names_of D) D.layout (get_or parts k p).0 (points-counted D) (subst (IsOn D.layout) at points)
