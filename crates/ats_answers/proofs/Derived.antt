-- Tables with the sections of their rings.
use Rattle.std.proofs.Common.{◌≡◌, ◌⊎◌, ℕ, ◌+◌, ◌<◌, ◌≤◌, List, [], ◌∷◌, ◌++◌, length, map, take, get_or, slice_get, All, Some, sym, ◌∙◌, ap, subst, arith, inl, inr}
use Rattle.std.specs.Prelude.{Ok}
use Rattle.std.proofs.lemmas.List.{get_or-map, length-map, take_all, take_more}
use Rattle.rail_model.specs.Table.{Table, Mission, Section, Connection, IsTable, IsConnection}
use Rattle.rail_model.specs.State.{Legal}
use Rattle.rail_model.specs.Certificate.{Tree}
use Rattle.rail_model.proofs.Tables.{with_connections}
use Rattle.forbidden_states.specs.Forbid.{Stay, AreStays, forbidding, marked}
use Rattle.forbidden_states.proofs.Tables.{is_table}
use Rattle.ring_sections.specs.Ring.{Pair, rings}
use Rattle.ring_sections.specs.Marking.{stays, ring_table}
use Rattle.ring_sections.proofs.Excluded.{rings-stays}
use Rattle.ring_sections.proofs.RingLists.{all-rings}
use Rattle.document_json.specs.Doc.{Doc, IsDoc, table_at}
use Rattle.document_json.specs.Keeps.{IsTaken}
use Rattle.document_json.specs.Reading.{doc_of}
use Rattle.document_json.specs.Replaced.{replaced, IsLight, IsRemarked, new_table}
use Rattle.document_json.specs.Written.{written}
use Rattle.document_json.proofs.Remade.{remarked-is-taken}
use Rattle.document_json.proofs.Offered.{offer_count}
use Rattle.ats_answers.specs.declared.failure.Failure.{Failure}
use Rattle.ats_answers.specs.declared.failure.Failure.TheVariants.{Memory as NoMemory}
use Rattle.ats_answers.specs.Deriving.{derived_table, derived, HasFewRings, HaveFewRings, HasTooManyRings, HasManyRings, IsDerived}
use Rattle.ats_answers.specs.Making.{tables_in, table_in, HaveMade}
use Rattle.ats_answers.proofs.AcceptedText.{derived_text}
use Rattle.ats_answers.proofs.LightMarked.{light}
use Rattle.ats_answers.proofs.Made.{table_count}

-- a connection looks at no section
connected_as : (T : Table) (S : List Section) (k : Connection) → IsConnection T k → IsConnection (record { missions = T.missions; sections = S; connections = [] }) k
connected_as T S k old = record {
  train = old.train;
  other = old.other;
  two = old.two;
  place = old.place;
  reached = old.reached;
}

-- the connections of a table stay ones of its missions with other sections
pub still_connected : (T : Table) (M : List Mission) (rs : List (List Pair)) (U : Table) (list : List Connection) → IsTable T → M ≡ T.missions → U ≡ ring_table M rs
    → list ≡ T.connections → (c : ℕ) (k : Connection) → slice_get list c ≡ Some k → IsConnection U k
still_connected T M rs U list formed ways is same c k at =
    let other : U ≡ ring_table T.missions rs = is ∙ ap (λ m. ring_table m rs) ways in
    let old = formed.connections c k (sym (ap (λ ks. slice_get ks c) same) ∙ at) in
    subst (λ V. IsConnection V k) (sym other) (connected_as T (map (forbidding T.missions) (map stays rs)) k old)

-- of a table that has at most 64 such rings
module _ (most : ℕ) (T : Table) (formed : IsTable T) (few : HasFewRings most T) where
  abbrev all : List (List Stay)
  all = map stays (rings T.missions most)

  stays_each : All (AreStays (length T.missions)) all
  stays_each = rings-stays T.missions (rings T.missions most) (all-rings T.missions most)

  marked_formed : IsTable (marked T.missions all)
  marked_formed =
      let size = length-map (rings T.missions most) stays in
      is_table T.missions all (record { few = formed.few_trains; each = formed.missions }) (omega (arith, size, few)) stays_each

  -- the new table is one
  pub derived_formed : IsTable (derived_table most T)
  derived_formed =
      with_connections (marked T.missions all) T.connections marked_formed formed.few_connections
      (λ c k at. connected_as T (map (forbidding T.missions) all) k (formed.connections c k at))

  -- and its sections are light
  pub derived_light : IsLight (derived_table most T)
  derived_light = let marks = light T.missions all formed.few_trains stays_each in record { limits = marks.limits; shares = marks.shares }

module _ (D : Doc) (most : ℕ) where
  pub derived_count : length (derived D most) ≡ length D.tables
  derived_count = length-map D.tables (λ t. derived_table most t.table)

  pub derived_at : (t : ℕ) → t < length D.tables → table_in (derived D most) t ≡ derived_table most (table_at D t)
  derived_at t lt = get_or-map (λ t. derived_table most t.table) D.tables t _ _ lt

  -- one table more
  pub derived_more : (t : ℕ) (T : Table) (before after : List Table) → t < length D.tables → before ≡ take t (derived D most)
      → T ≡ derived_table most (table_at D t) → after ≡ before ++ T ∷ [] → after ≡ take (t + 1) (derived D most)
  derived_more t T before after lt front is pushed =
      pushed ∙ (λ i. front i ++ (is ∙ sym (derived_at t lt)) i ∷ []) ∙ sym (take_more (derived D most) t _ (subst (λ n. t < n) (sym derived_count) lt))

  -- all of them
  pub all_derived : (done marked : List Table) → tables_in D ≡ done → marked ≡ take (length done) (derived D most) → marked ≡ derived D most
  all_derived done marked all front =
      let counted = ap length (sym all) ∙ table_count D in
      front ∙ take_all (length done) (derived D most) (omega (arith, counted, derived_count))

  pub all_few : (done : List Table) → tables_in D ≡ done → ((u : ℕ) → u < length done → HasFewRings most (table_at D u)) → HaveFewRings D most
  all_few done all few t lt = few t (omega (arith, lt, ap length all, table_count D))

  -- the first with too many rings
  pub many_here : (n number : ℕ) (T : Table) (e : Failure) → n < length D.tables → T ≡ table_at D n → number ≡ n → ((u : ℕ) → u < n → HasFewRings most (table_at D u))
      → (e ≡ NoMemory) ⊎ HasTooManyRings most T number e → (e ≡ NoMemory) ⊎ HasManyRings D most e
  many_here n number T e lt at same earlier h = elim h [
    | inl memory ↦ inl memory
    | inr many ↦
        inr (record {
          table = n;
          in_range = lt;
          earlier = earlier;
          many = subst (λ (U : Table). HasTooManyRings most U n e) at (subst (λ k. HasTooManyRings most T k e) same many);
        })
  ]

  pub some_table : IsDoc D → 0 < length D.tables
  some_table doc = subst (λ n. 0 < n) (offer_count D) doc.tables.some

  pub few_tables : IsDoc D → length (derived D most) ≤ 16
  few_tables doc = subst (λ n. n ≤ 16) (offer_count D ∙ sym derived_count) doc.tables.few

  -- the new tables with their certificates fit the document
  pub remarked : (budget : ℕ) (parts : List (Table × Tree)) → IsDoc D → HaveFewRings D most → Legal (table_in (derived D most) 0) D.start
      → HaveMade (derived D most) budget parts → IsRemarked D parts
  remarked budget parts doc few start made =
      let size : length parts ≡ length D.tables = sym (length-map parts (λ p. p.0)) ∙ ap length made.0 ∙ derived_count in
      let new : (t : ℕ) → t < length D.tables → new_table parts t ≡ table_in (derived D most) t =
      λ t lt. sym (get_or-map (λ p. p.0) parts t _ _ (subst (λ n. t < n) (sym size) lt)) ∙ ap (λ ts. table_in ts t) made.0 in
      let same : (t : ℕ) → t < length D.tables → new_table parts t ≡ derived_table most (table_at D t) = λ t lt. new t lt ∙ derived_at t lt in
      record {
        one_each = size;
        missions = λ t lt. ap (λ (U : Table). U.missions) (same t lt);
        connections = λ t lt. ap (λ (U : Table). U.connections) (same t lt);
        formed = λ t lt. subst IsTable (sym (same t lt)) (derived_formed most (table_at D t) (doc.formed t lt) (few t lt));
        light = λ t lt. subst IsLight (sym (same t lt)) (derived_light most (table_at D t) (doc.formed t lt) (few t lt));
        start = subst (λ U. Legal U D.start) (sym (new 0 (some_table doc))) start;
      }

  -- what is said of the first of them and a copy of the start
  pub of_first : (P : Table → List ℕ → Type 0) (tables : List Table) (T : Table) (p : List ℕ) → IsDoc D → tables ≡ derived D most → T ≡ get_or tables 0 T → p ≡ D.start
      → P T p → P (table_in (derived D most) 0) D.start
  of_first P tables T p doc are first start h =
      let lt = some_table doc in
      let same : T ≡ table_in (derived D most) 0 =
      first ∙ ap (λ ts. get_or ts 0 T) are ∙ get_or-map (λ t. derived_table most t.table) D.tables 0 _ T lt ∙ sym (derived_at 0 lt) in
      subst (λ U. P U D.start) same (subst (λ q. P T q) start h)

  -- nothing of the document with the new tables is refused
  pub still_taken : (budget : ℕ) (tables : List Table) (parts given : List (Table × Tree)) → IsDoc D → IsTaken D → HaveFewRings D most
      → Legal (table_in (derived D most) 0) D.start → tables ≡ derived D most → HaveMade tables budget parts → given ≡ parts → IsTaken (replaced D given)
  still_taken budget tables parts given doc taken few start are made same =
      let fit = remarked budget parts doc few start (subst (λ ts. HaveMade ts budget parts) are made) in
      subst (λ ps. IsTaken (replaced D ps)) (sym same) (remarked-is-taken D taken parts fit)

  -- and the text of the document with them is what is derived
  pub derived_is : (budget : ℕ) (tables : List Table) (parts given : List (Table × Tree)) (bytes : List ℕ) → budget ≤ 1000000 → HaveFewRings D most
      → Legal (table_in (derived D most) 0) D.start → tables ≡ derived D most → HaveMade tables budget parts → given ≡ parts → bytes ≡ written (replaced D given)
      → doc_of bytes ≡ Ok (replaced D given) → IsDerived D most budget bytes
  derived_is budget tables parts given bytes enough few start are made same printed reads =
      let have = subst (λ ts. HaveMade ts budget parts) are made in
      record {
        few = few;
        start = start;
        parts = parts;
        made = have;
        text = derived_text D (derived D most) budget parts bytes enough derived_count have
            (printed ∙ ap (λ ps. written (replaced D ps)) same) (reads ∙ ap (λ ps. Ok (replaced D ps)) same);
      }
