-- Tables with guards and certificates, one more at a time, and a document with them.
use Rattle.std.proofs.Common.{◌≡◌, false, ℕ, ◌+◌, ◌<◌, ◌≤◌, List, [], ◌∷◌, ◌++◌, length, map, arith, inl, inr}
use Rattle.std.proofs.Common.{refl, sym, ap, ◌∙◌, subst}
use Rattle.std.specs.Prelude.{◌==◌, slice_index_or}
use Rattle.std.proofs.lemmas.Bool.{cases_lt}
use Rattle.std.proofs.lemmas.List.{length-map, length-append, get_or_append_left, get_or_default}
use Rattle.std.proofs.Math.Seq.{get_or-append_seam}
use Rattle.forbidden_states.specs.Forbid.{Stay, forbidding}
use Rattle.legal_state.proofs.Verdicts.{illegal_not_legal}
use Rattle.legal_state.specs.Illegal.{IsIllegal}
use Rattle.legal_state.specs.declared.judges.Illegal.{Illegal}
use Rattle.rail_model.specs.Certificate.{Tree, arrived}
use Rattle.rail_model.specs.State.{Legal}
use Rattle.rail_model.specs.Table.{Table, IsTable}
use Rattle.document_json.specs.Doc.{Doc, DocTable, IsDoc, table_at}
use Rattle.document_json.specs.Keeps.{IsTaken}
use Rattle.document_json.specs.Migrated.{IsMigrated}
use Rattle.document_json.specs.Replaced.{new_table, replaced}
use Rattle.document_json.proofs.FormedDoc.{no_table}
use Rattle.document_json.proofs.MoreSections.{is_taken}
use Rattle.section_protect.proofs.Lossless.{guards_stay}
use Rattle.section_protect.specs.Protects.{IsGuarded}
use Rattle.state_core.proofs.Tables.{is_guarded_table}
use Rattle.document_protection.specs.Protected.{IsPartOf, ArePartsOf, AreProtected, AreLeft, ForbidsStart, HasGuards}
use Rattle.document_protection.specs.Protected.{HaveGuards, HasNoneOf, HasNone, IsLeftBy, IsForbidden, IsStuckBy}
use Rattle.document_protection.specs.Protected.{guards_at, new_tree, table_in}
use Rattle.document_protection.specs.declared.unprotected.Unprotected.{Unprotected}
use Rattle.document_protection.specs.declared.unprotected.Unprotected.TheVariants.{Memory, Uncertified, Start}
use Rattle.document_protection.specs.declared.unprotected.Why.{Why}
use Rattle.document_protection.proofs.Listed.{listed_there, offer_from}

abbrev pub none : Table × Tree
none = (record { missions = []; sections = []; connections = [] }, arrived)

-- the table of a number among those of a document
abbrev doc_at : List DocTable → ℕ → DocTable
doc_at ts t = slice_index_or ts t no_table

-- These are the tables of a document that is another one in a later version.
pub record AreApart (D E : Doc) (tables : List Table) : Type 0 where
  pub tables_are : tables ≡ map (λ t. t.table) E.tables
  pub migrated : IsMigrated D E

-- tables that are taken out of a document are lent
pub are_apart : (D E F : Doc) (lent tables : List Table) → E ≡ F → IsMigrated D F → lent ≡ tables →
    tables ≡ map (λ t. t.table) F.tables → AreApart D E lent
are_apart D E F lent tables same migrated lent_are taken = record {
  tables_are = lent_are ∙ taken ∙ ap (λ (G : Doc). map (λ t. t.table) G.tables) (sym same);
  migrated = subst (λ (G : Doc). IsMigrated D G) (sym same) migrated;
}

-- what is so of a number's part
abbrev Part : List Table → ℕ → List (List Stay) → Table × Tree → Type 0
Part tables t g p = IsPartOf (table_in tables t) g p.0 p.1

-- The first n tables have their parts.
pub record ArePartsBelow (tables : List Table) (n : ℕ) (guards : List (List (List Stay)))
    (parts : List (Table × Tree)) : Type 0 where
  pub one_each : length parts ≡ n
  pub guards_each : length guards ≡ n
  pub each : (t : ℕ) → t < n → IsPartOf (table_in tables t) (guards_at guards t) (new_table parts t) (new_tree parts t)

-- an element that was added is the last one
added_here : {X : Type 0} (xs ys : List X) (x d : X) (n k : ℕ) → length xs ≡ n → k ≡ n → ys ≡ xs ++ x ∷ [] →
    slice_index_or ys k d ≡ x
added_here xs ys x d n k size is added =
    let place : k ≡ length xs = is ∙ sym size in
    (λ i. slice_index_or (added i) (place i) d) ∙ get_or-append_seam xs x [] d

-- and the others stay
added_before : {X : Type 0} (xs ys : List X) (x d : X) (n k : ℕ) → length xs ≡ n → k < n → ys ≡ xs ++ x ∷ [] →
    slice_index_or ys k d ≡ slice_index_or xs k d
added_before xs ys x d n k size lt added =
    let within : k < length xs = omega (arith, lt, size) in
    ap (λ zs. slice_index_or zs k d) added ∙ get_or_append_left xs (x ∷ []) d k within

longer : {X : Type 0} (xs ys : List X) (x : X) (n : ℕ) → length xs ≡ n → ys ≡ xs ++ x ∷ [] → length ys ≡ n + 1
longer xs ys x n size added =
    ap length added ∙ length-append xs (x ∷ []) ∙ (let one : length xs + 1 ≡ n + 1 = omega (arith, size) in one)

-- with one part more the first n + 1 tables have theirs
pub parts_more : (tables : List Table) (n : ℕ) (gs hs : List (List (List Stay))) (g : List (List Stay))
    (ps qs : List (Table × Tree)) (p : Table × Tree) (T : Table) → hs ≡ gs ++ g ∷ [] →
    qs ≡ ps ++ p ∷ [] → T ≡ table_in tables n →
    IsPartOf T g p.0 p.1 →
    ArePartsBelow tables n gs ps → ArePartsBelow tables (n + 1) hs qs
parts_more tables n gs hs g ps qs p T guards_added added is part so = record {
  one_each = longer ps qs p n so.one_each added;
  guards_each = longer gs hs g n so.guards_each guards_added;
  each = λ t lt. elim (cases_lt t n) [
    | inl early ↦
        subst (λ (q : Table × Tree). Part tables t (guards_at hs t) q)
        (sym (added_before ps qs p none n t so.one_each early added))
        (subst (λ (b : List (List Stay)). Part tables t b (slice_index_or ps t none))
        (sym (added_before gs hs g [] n t so.guards_each early guards_added)) (so.each t early))
    | inr late ↦
        let there : t ≡ n = omega (arith, lt, late) in
        let here : Part tables n g p = subst (λ (U : Table). IsPartOf U g p.0 p.1) is part in
        subst (λ (q : Table × Tree). Part tables t (guards_at hs t) q)
        (sym (added_here ps qs p none n t so.one_each there added))
        (subst (λ (b : List (List Stay)). Part tables t b p)
        (sym (added_here gs hs g [] n t so.guards_each there guards_added))
        (subst (λ k. Part tables k g p) (sym there) here))
  ];
}

-- a table that is read in range is the one with the number
pub table_read : (tables : List Table) (n : ℕ) (T : Table) → n < length tables → T ≡ slice_index_or tables n T →
    T ≡ table_in tables n
table_read tables n T lt is =
    is ∙ get_or_default tables n T (record { missions = []; sections = []; connections = [] }) lt

-- where the next table gets guards and no certificate
pub left_here : (tables : List Table) (n k : ℕ) (gs hs : List (List (List Stay))) (g : List (List Stay))
    (ps : List (Table × Tree)) (T made : Table) (why : Why) → k ≡ n → hs ≡ gs ++ g ∷ [] → n < length tables →
    T ≡ table_in tables n → ArePartsBelow tables n gs ps → IsGuarded T g made → IsStuckBy made why →
    AreLeft (length tables) (table_in tables) k hs why
left_here tables n k gs hs g ps T made why here added lt is so guarded stuck =
    subst (λ (m : ℕ). AreLeft (length tables) (table_in tables) m hs why) (sym here)
    (record {
      within = lt;
      count = longer gs hs g n so.guards_each added;
      each = λ t early. (
        new_table ps t,
        subst (λ (b : List (List Stay)). IsGuarded (table_in tables t) b (new_table ps t))
            (sym (added_before gs hs g [] n t so.guards_each early added)) (so.each t early).guarded_is,
      );
      left =
          subst (λ (b : List (List Stay)). IsLeftBy (table_in tables n) b why)
          (sym (added_here gs hs g [] n n so.guards_each refl added))
          (subst (λ (U : Table). IsLeftBy U g why) is (record { made = made; guarded_is = guarded; stuck = stuck }));
    })

module _ (E : Doc) (tables : List Table) (tables_are : tables ≡ map (λ t. t.table) E.tables) where
  pub count : length tables ≡ length E.tables
  count = ap length tables_are ∙ length-map E.tables (λ (t : DocTable). t.table)

  -- the tables in the list are those of the document
  tables_there : table_in tables ≡ table_at E
  tables_there = ap table_in tables_are ∙ (λ i t. listed_there E.tables t i)

  pub there : (t : ℕ) → table_in tables t ≡ table_at E t
  there t = ap (λ (f : ℕ → Table). f t) tables_there

  pub few : IsDoc E → length tables ≤ 16
  few is = let all = is.tables.few in omega (arith, all, count, length-map E.tables offer_from)

  pub some : IsDoc E → 0 < length E.tables
  some is = let all = is.tables.some in omega (arith, all, length-map E.tables offer_from)

  -- a document with the same tables gets no certificates where these tables get none
  pub none_for : (D : Doc) (e : Unprotected) → IsMigrated D E → HasNoneOf tables e → HasNone D e
  none_for D Memory m fails = tt
  none_for D (Uncertified k gs why) m fails =
      subst (λ (ts : List DocTable). AreLeft (length ts) (λ t. (doc_at ts t).table) k gs.items why) m.tables
      (subst (λ (f : ℕ → Table). AreLeft (length E.tables) f k gs.items why) tables_there
      (subst (λ (n : ℕ). AreLeft n (table_in tables) k gs.items why) count fails))
  none_for D (Start gs) m fails = absurd fails

module _ (E : Doc) (tables : List Table) (guards : List (List (List Stay))) (parts : List (Table × Tree)) (is : IsDoc E)
    (tables_are : tables ≡ map (λ t. t.table) E.tables) (found : ArePartsOf tables guards parts) where
  same_count : length tables ≡ length E.tables
  same_count = count E tables tables_are

  pub one_each : length parts ≡ length E.tables
  one_each = found.one_each ∙ same_count

  part : (t : ℕ) → t < length E.tables →
      IsPartOf (table_at E t) (guards_at guards t) (new_table parts t) (new_tree parts t)
  part t lt =
      subst (λ T. IsPartOf T (guards_at guards t) (new_table parts t) (new_tree parts t)) (there E tables tables_are t)
      (found.each t (omega (arith, lt, same_count)))

  formed : (t : ℕ) → t < length E.tables → IsTable (new_table parts t)
  formed t lt =
      let own = (part t lt).guarded_is in
      subst IsTable (sym own.made_is)
      (is_guarded_table (table_at E t) (guards_at guards t) (is.formed t lt) own.few
      (guards_stay (table_at E t) (guards_at guards t) own.guards_are))

  -- nothing of the document with these tables is refused
  pub replaced_is_taken : IsTaken E → (E.version == 1) ≡ false → Legal (new_table parts 0) E.start →
      IsTaken (replaced E parts)
  replaced_is_taken taken later start =
      is_taken E taken later parts one_each formed
      (λ t lt. (map (forbidding (table_at E t).missions) (guards_at guards t), (part t lt).guarded_is.made_is)) start

  -- and they are tables with guards for each document with the same tables
  pub are_protected : (D : Doc) → IsMigrated D E → AreProtected D guards parts
  are_protected D m = record {
    one_each = one_each ∙ ap length m.tables;
    guards_each = found.guards_each ∙ same_count ∙ ap length m.tables;
    each = λ t lt.
        subst (λ (ts : List DocTable). IsPartOf (doc_at ts t).table (guards_at guards t) (new_table parts t)
        (new_tree parts t)) m.tables
        (part t (omega (arith, lt, ap length m.tables)));
  }

  have_guards : (D : Doc) → IsMigrated D E → HaveGuards D guards
  have_guards D m t lt =
      let within : t < length E.tables = omega (arith, lt, found.guards_each, same_count) in
      subst (λ (ts : List DocTable). HasGuards (record D { tables = ts }) t (guards_at guards t)) m.tables
      (record { within = within; made = new_table parts t; guarded_is = (part t within).guarded_is })

  -- such a document isn't protected where the guards of the first table forbid the start
  pub start_forbidden : (D : Doc) (why : Illegal) → IsMigrated D E → IsIllegal (new_table parts 0) E.start why →
      ForbidsStart D guards
  start_forbidden D why m illegal =
      let one : 0 < length E.tables = some E tables tables_are is in
      let forbidden : IsForbidden (table_at E 0) (guards_at guards 0) E.start =
      record {
        made = new_table parts 0;
        guarded_is = (part 0 one).guarded_is;
        forbidden = illegal_not_legal (new_table parts 0) E.start why illegal;
      } in
      record {
        some = omega (arith, one, found.guards_each, same_count);
        have_guards = have_guards D m;
        forbidden =
            subst (λ (p : List ℕ). IsForbidden (table_at D 0) (guards_at guards 0) p) m.start
            (subst (λ (ts : List DocTable). IsForbidden (doc_at ts 0).table (guards_at guards 0) E.start) m.tables
            forbidden);
      }
