-- A document of version 1 is taken as one of version 2.
use Rattle.std.proofs.Common.{◌≡◌, ◌∙◌, ℕ, zero, suc, ◌<◌, ◌≤◌, ◌==◌, true, false, List, [], ◌∷◌, length, map, replicate, refl, sym, ap, ap₂, subst, arith, inl, inr}
use Rattle.std.proofs.lemmas.Bool.Decides.{leb_tells, nat_tests}
use Rattle.std.proofs.lemmas.List.Elements.{All-from_get_or}
use Rattle.std.proofs.lemmas.List.Folds.{map_fixed}
use Rattle.rail_model.specs.Table.{Table, Mission, IsTable}
use Rattle.section_marks.specs.Keeping.{KeepsTo}
use Rattle.section_marks.specs.declared.marks.Marks.TheVariants.{Four}
use Rattle.document_shapes.specs.Raw.{DocMembers}
use Rattle.document_json.specs.Doc.{Doc, IsDoc, doc_table, table_at}
use Rattle.document_json.specs.Keeps.{IsTaken, AreMembersOf}
use Rattle.document_json.specs.Members.{members_in, in_version}
use Rattle.document_json.specs.Migrated.{staying, staying_table, later_version, migrated, IsMigrated}
use Rattle.document_json.specs.Tables.{exits_or_none}
use Rattle.document_json.proofs.FormedDoc.{no_table, IsMade, from, again}
use Rattle.document_json.proofs.NamedLemmas.{of-version}
use Rattle.document_json.proofs.Taken.{Makes, makes}
use Rattle.document_json.proofs.Marked.{sections-kept}
use Rattle.document_json.proofs.WaysBack.{missions-made_of}

all_stay : (ms : List Mission) (n : ℕ) → map (λ m. m.exits) ms ≡ replicate n false → map staying ms ≡ ms
all_stay [] n h = refl
all_stay (m ∷ ms) zero h = absurd cc
all_stay (m ∷ ms) (suc n) h =
    let here : m.exits ≡ false = cc in
    let rest : map (λ m. m.exits) ms ≡ replicate n false = cc in
    ap₂ (λ e later. record { points = m.points; exits = e } ∷ later) (sym here) (all_stay ms n rest)

of_four : (T : Table) → IsTable T → KeepsTo Four T
of_four T h = record {
  limits = λ s lt. (h.sections s lt).low_limit;
  shares = λ s i k lt train within. (h.sections s lt).not_above i k train within;
}

module _ (D : Doc) (taken : IsTaken (in_version 1 D)) where
  abbrev n : ℕ
  n = length D.trains

  made : Makes (members_in (in_version 1 D)) (in_version 1 D)
  made = makes (members_in (in_version 1 D)) (in_version 1 D) taken

  own : (t : ℕ) → t < length D.tables → IsMade D.layout n 1 t (doc_table D t)
  own = from (members_in (in_version 1 D)) (in_version 1 D) made (of-version (in_version 1 D))

  -- in version 1 no train leaves
  stays : map staying_table D.tables ≡ D.tables
  stays =
      map_fixed staying_table D.tables (All-from_get_or (λ y. staying_table y ≡ y) D.tables no_table
      (λ t lt.
      let x = own t lt in
      let y = doc_table D t in
      let back = missions-made_of D.layout n x.0.missions (exits_or_none n x.0.exits) y.table.missions x.2.table.missions in
      ap (λ ms. record y { table = record y.table { missions = ms } }) (all_stay y.table.missions n (back.exits_are ∙ ap (exits_or_none n) (x.1.exits (omega arith))))))

  -- and in version 2 it is taken
  pub later-is-taken : ((t : ℕ) → t < length D.tables → IsTable (table_at D t)) → IsTaken (in_version 2 D)
  later-is-taken formed =
      again (members_in (in_version 1 D)) (in_version 1 D) made (of-version (in_version 1 D)) 2 D.tables refl
      (λ t lt.
      let x = own t lt in (
        x.0,
        record { exits = λ low. absurd (omega (arith, low)); connections = λ low. x.1.connections (omega arith) },
        record {
          due = x.2.due;
          table = record {
            missions = x.2.table.missions;
            sections = sections-kept (table_at D t) (formed t lt) Four (of_four (table_at D t) (formed t lt));
            connections = x.2.table.connections;
            connections_are = x.2.table.connections_are;
          };
          times = x.2.times;
        },
      ))
      made.start

-- ---- the migrated document

-- It is the document in another version, of which nothing is refused.
pub record IsLater (D : Doc) : Type 0 where
  pub is : in_version (later_version D.version) D ≡ migrated D
  pub first : 1 ≤ later_version D.version
  pub last : later_version D.version ≤ 3
  pub taken : IsTaken (in_version (later_version D.version) D)

migrated-is-later : (D : Doc) → IsDoc D → IsTaken D → 1 ≤ D.version → D.version ≤ 3 → IsLater D
migrated-is-later D formed taken first last = elim (leb_tells 2 D.version) [
  | inl later ↦
      let test : (D.version == 1) ≡ false = let low = later.1 in grind (arith, nat_tests) in
      record { is = rw test refl; first = rw test first; last = rw test last; taken = rw test taken }
  | inr older ↦
      let one : D.version ≡ 1 = omega (arith, older.1, first) in
      let test : (D.version == 1) ≡ true = grind (arith, nat_tests) in
      let old : IsTaken (in_version 1 D) = subst (λ v. IsTaken (in_version v D)) one taken in
      record {
        is = rw test (ap (λ ts. record D { version = 2; tables = ts }) (sym (stays D old)));
        first = rw test (omega arith);
        last = rw test (omega arith);
        taken = rw test (later-is-taken D old formed.formed);
      }
]

-- The document's members in its later version are the migrated document's.
module _ (D : Doc) (formed : IsDoc D) (taken : IsTaken D) (version : ℕ) (same : version ≡ D.version) (first : 1 ≤ version) (last : version ≤ 3) where
  later : IsLater D
  later = migrated-is-later D formed taken (subst (λ v. 1 ≤ v) same first) (subst (λ v. v ≤ 3) same last)

  pub are-migrated : (m : DocMembers) (to : ℕ) → to ≡ later_version version → m ≡ members_in (in_version to D) → AreMembersOf (migrated D) m
  are-migrated m to is members =
      let are : m ≡ members_in (in_version (later_version D.version) D) = members ∙ ap (λ v. members_in (in_version v D)) (is ∙ ap later_version same) in
      subst (λ E. AreMembersOf E m) later.is (record { are = are; first = later.first; last = later.last; taken = later.taken })

  -- it differs in its version alone
  pub differs-in-version : IsMigrated D (migrated D)
  differs-in-version = subst (IsMigrated D) later.is (record { later = refl; layout = refl; trains = refl; start = refl; tables = refl })
