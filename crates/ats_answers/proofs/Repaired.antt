-- Tables that are repaired one after another, and what their document is.
use Rattle.std.specs.Prelude.{Ok}
use Rattle.std.proofs.Common.{◌≡◌, ◌⊎◌, ℕ, ◌+◌, ◌<◌, ◌≤◌, List, [], ◌∷◌, ◌++◌, All, get_or, length, sym, ◌∙◌, ap, subst, arith, inl, inr}
use Rattle.std.proofs.lemmas.Bool.{cases_eq}
use Rattle.std.proofs.lemmas.List.{get_or_append_left, length-append}
use Rattle.std.proofs.Math.Seq.{get_or-append_seam}
use Rattle.rail_model.specs.State.{Legal}
use Rattle.rail_model.specs.Table.{Table, Mission, IsTable}
use Rattle.rail_model.specs.Certificate.{Tree}
use Rattle.forbidden_states.specs.Forbid.{Stay, AreStays, marked}
use Rattle.forbidden_states.proofs.Members.{among-at}
use Rattle.forbidden_states.proofs.Tables.{is_table}
use Rattle.section_repair.specs.Repairs.{Repairs}
use Rattle.section_repair.specs.Claims.{LosesNothing, IsExact, DoomsAlike}
use Rattle.section_repair.specs.declared.repaired.Repair.{Repair}
use Rattle.section_repair.specs.declared.repaired.Repair.TheVariants as repair
use Rattle.section_repair.proofs.Kept.{reached_sound}
use Rattle.document_json.specs.Doc.{Doc, IsDoc, table_at}
use Rattle.document_json.specs.Reading.{doc_of}
use Rattle.document_json.specs.Keeps.{IsTaken}
use Rattle.document_json.specs.Replaced.{replaced, IsLight, IsRemarked}
use Rattle.document_json.specs.Written.{written}
use Rattle.document_json.proofs.Remade.{remarked-is-taken}
use Rattle.document_json.proofs.Offered.{offer_count}
use Rattle.ats_answers.specs.Making.{part_in}
use Rattle.ats_answers.specs.Repairing.{IsRepairedAs, EndsRepair, RepairsNone, AreRepaired, IsUnconnected, IsRepaired, IsRefusedStart, FailsToRepair}
use Rattle.ats_answers.specs.Starting.{IsBadStart}
use Rattle.ats_answers.specs.declared.failure.Failure.{Failure}
use Rattle.ats_answers.specs.declared.failure.Failure.TheVariants.{Memory}
use Rattle.ats_answers.proofs.AcceptedText.{repaired_text}
use Rattle.ats_answers.proofs.LightMarked.{light}

-- ---- how a repair ends

module _ (T : Table) (M : List Mission) (budget rounds : ℕ) (r : Repair) (same : M ≡ T.missions) where
  -- a repair with a certificate
  pub is_repaired : (U : Table) (c : Tree) (n : ℕ) → r ≡ repair.Done U c n → Repairs M budget rounds r → IsExact M r → IsRepairedAs T budget rounds U c
  is_repaired U c n is repairs exact = (
    n,
    subst (λ (N : List Mission). Repairs N budget rounds (repair.Done U c n)) same (subst (Repairs M budget rounds) is repairs),
    subst (λ (N : List Mission). IsExact N (repair.Done U c n)) same (subst (IsExact M) is exact),
  )

  pub dooms_alike : (U : Table) (c : Tree) (n m : ℕ) → r ≡ repair.Done U c n → DoomsAlike M r → DoomsAlike T.missions (repair.Done U c m)
  dooms_alike U c n m is dooms = subst (λ (N : List Mission). DoomsAlike N (repair.Done U c n)) same (subst (DoomsAlike M) is dooms)

  -- a repair without one
  pub ends_repair : (s : Repair) → r ≡ s → Repairs M budget rounds r → LosesNothing M r → EndsRepair T budget rounds s
  ends_repair s is repairs loses = (
    subst (λ (N : List Mission). Repairs N budget rounds s) same (subst (Repairs M budget rounds) is repairs),
    subst (λ (N : List Mission). LosesNothing N s) same (subst (LosesNothing M) is loses),
  )

-- a start that isn't legal under a repaired table
pub refused_start : (T U : Table) (p : List ℕ) (budget rounds : ℕ) (c : Tree) (e : Failure) → IsRepairedAs T budget rounds U c
    → ((n : ℕ) → DoomsAlike T.missions (repair.Done U c n)) → IsBadStart U p e → IsRefusedStart T p budget rounds e
refused_start T U p budget rounds c e repaired dooms start =
    record { table = U; tree = c; repaired = repaired; dooms = dooms repaired.0; start = start }

-- ---- one table

-- The table is that of these missions with sections that forbid some stays.
record IsForbidding (M : List Mission) (U : Table) : Type 0 where
  sections : List (List Stay)
  few : length sections ≤ 64
  stays : All (AreStays (length M)) sections
  table : U ≡ marked M sections

forbids : (T U : Table) (budget rounds : ℕ) (c : Tree) → IsRepairedAs T budget rounds U c → IsForbidding T.missions U
forbids T U budget rounds c h =
    let states = h.1.0 in
    let S = h.1.1 in
    let sound = reached_sound T.missions budget states S h.1.2.treats in
    record {
      sections = S;
      few = h.1.2.few;
      stays = λ k d lt. (sound _ (among-at S k d lt)).stays;
      table = h.1.2.table;
    }

module _ (T U : Table) (formed : IsTable T) (f : IsForbidding T.missions U) where
  own_missions : U.missions ≡ T.missions
  own_missions = ap (λ (V : Table). V.missions) f.table

  no_connections : U.connections ≡ []
  no_connections = ap (λ (V : Table). V.connections) f.table

  still_formed : IsTable U
  still_formed = subst IsTable (sym f.table)
      (is_table T.missions f.sections (record { few = formed.few_trains; each = formed.missions }) f.few f.stays)

  still_light : IsLight U
  still_light = subst IsLight (sym f.table) (light T.missions f.sections formed.few_trains f.stays)

-- ---- table by table

-- one more
pub repaired_more : (D : Doc) (budget rounds n : ℕ) (parts longer : List (Table × Tree)) (p : Table × Tree) → AreRepaired D budget rounds n parts
    → longer ≡ parts ++ p ∷ [] → IsRepairedAs (table_at D n) budget rounds p.0 p.1 → (n ≡ 0 → Legal p.0 D.start) → AreRepaired D budget rounds (n + 1) longer
repaired_more D budget rounds n parts longer p so is repaired start =
    let last : (t : ℕ) → t ≡ n → part_in longer t ≡ p = λ t same.
    (let place : t ≡ length parts = same ∙ sym so.one_each in (λ i. part_in (is i) (place i)) ∙ get_or-append_seam parts p [] _) in
    let before : (t : ℕ) → t < n → part_in longer t ≡ part_in parts t = λ t lt.
    ap (λ ps. part_in ps t) is ∙ get_or_append_left parts (p ∷ []) _ t (omega (arith, lt, so.one_each)) in
    record {
      one_each = ap length is ∙ length-append parts (p ∷ []) ∙ (let one : length parts + 1 ≡ n + 1 = omega (arith, so.one_each) in one);
      each = λ t lt. elim (cases_eq t n) [
        | inl same ↦
            subst (λ (q : Table × Tree). IsRepairedAs (table_at D t) budget rounds q.0 q.1) (sym (last t same))
            (subst (λ k. IsRepairedAs (table_at D k) budget rounds p.0 p.1) (sym same) repaired)
        | inr other ↦
            subst (λ (q : Table × Tree). IsRepairedAs (table_at D t) budget rounds q.0 q.1) (sym (before t (omega (arith, lt, other))))
            (so.each t (omega (arith, lt, other)))
      ];
      start = λ lt. elim (cases_eq 0 n) [
        | inl same ↦ subst (λ (q : Table × Tree). Legal q.0 D.start) (sym (last 0 same)) (start (sym same))
        | inr other ↦ subst (λ (q : Table × Tree). Legal q.0 D.start) (sym (before 0 (omega (arith, other)))) (so.start (omega (arith, other)))
      ];
    }

-- the one that was added to none is the first
pub first_part : (parts longer : List (Table × Tree)) (p q : Table × Tree) → length parts ≡ 0 → longer ≡ parts ++ p ∷ [] → q ≡ get_or longer 0 q → q ≡ p
first_part parts longer p q none is at = at ∙ (λ i. get_or (is i) (sym none i) q) ∙ get_or-append_seam parts p [] q

-- the first of which the repair fails
pub failed_here : (D : Doc) (budget rounds n : ℕ) (parts : List (Table × Tree)) (e : Failure) → IsUnconnected D (length D.tables) → n < length D.tables
    → AreRepaired D budget rounds n parts
    → (e ≡ Memory) ⊎ RepairsNone (table_at D n) n budget rounds e ⊎ ((n ≡ 0) × IsRefusedStart (table_at D n) D.start budget rounds e)
    → (e ≡ Memory) ⊎ FailsToRepair D budget rounds e
failed_here D budget rounds n parts e unconnected lt so h = elim h [
  | inl memory ↦ inl memory
  | inr failed ↦ elim failed [
    | inl none ↦ inr (inr (inl (record { unconnected = unconnected; table = n; in_range = lt; parts = parts; earlier = so; none = none })))
    | inr start ↦ inr (inr (inr (unconnected, subst (λ k. IsRefusedStart (table_at D k) D.start budget rounds e) start.0 start.1)))
  ]
]

-- ---- the whole document

-- nothing of a document with repaired tables in place of its own is refused
pub repaired_taken : (D : Doc) (budget rounds : ℕ) (parts : List (Table × Tree)) → IsDoc D → IsTaken D → IsUnconnected D (length D.tables)
    → AreRepaired D budget rounds (length D.tables) parts → IsTaken (replaced D parts)
repaired_taken D budget rounds parts doc taken unconnected so =
    let some : 0 < length D.tables = subst (λ n. 0 < n) (offer_count D) doc.tables.some in
    let f : (t : ℕ) → t < length D.tables → IsForbidding (table_at D t).missions (part_in parts t).0 = λ t lt.
    forbids (table_at D t) (part_in parts t).0 budget rounds (part_in parts t).1 (so.each t lt) in
    let are : IsRemarked D parts = record {
      one_each = so.one_each;
      missions = λ t lt. own_missions (table_at D t) (part_in parts t).0 (doc.formed t lt) (f t lt);
      connections = λ t lt. no_connections (table_at D t) (part_in parts t).0 (doc.formed t lt) (f t lt) ∙ sym (unconnected t lt);
      formed = λ t lt. still_formed (table_at D t) (part_in parts t).0 (doc.formed t lt) (f t lt);
      light = λ t lt. still_light (table_at D t) (part_in parts t).0 (doc.formed t lt) (f t lt);
      start = so.start some;
    } in
    remarked-is-taken D taken parts are

-- and the text of the document with them is what is repaired
pub repaired_is : (D : Doc) (budget rounds : ℕ) (parts given : List (Table × Tree)) (bytes : List ℕ) → budget ≤ 1000000 → IsUnconnected D (length D.tables)
    → AreRepaired D budget rounds (length D.tables) parts → given ≡ parts → bytes ≡ written (replaced D given) → doc_of bytes ≡ Ok (replaced D given)
    → IsRepaired D budget rounds bytes
repaired_is D budget rounds parts given bytes enough unconnected so same printed reads = record {
  unconnected = unconnected;
  parts = parts;
  repaired = so;
  text = repaired_text D budget rounds parts bytes enough so (printed ∙ ap (λ ps. written (replaced D ps)) same) (reads ∙ ap (λ ps. Ok (replaced D ps)) same);
}
