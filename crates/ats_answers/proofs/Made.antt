-- Tables for which certificates are made one after another.
use Rattle.std.proofs.Common.{◌≡◌, ◌⊎◌, ℕ, ◌+◌, ◌<◌, List, [], ◌∷◌, ◌++◌, length, map, sym, ◌∙◌, ap, subst, arith, inl, inr}
use Rattle.std.proofs.lemmas.Bool.{cases_eq}
use Rattle.std.proofs.lemmas.List.{get_or-map, length-map, map-append, get_or_append_left, length-append}
use Rattle.std.proofs.Math.Seq.{get_or-append_seam}
use Rattle.rail_model.specs.Table.{Table}
use Rattle.rail_model.specs.Certificate.{Tree, Accepts}
use Rattle.cert_maker.specs.Rule.{Makes}
use Rattle.cert_maker.specs.declared.made.Made.TheVariants.{Cert as cert}
use Rattle.document_json.specs.Doc.{Doc, table_at}
use Rattle.document_json.specs.Trees.{tree_at}
use Rattle.ats_answers.specs.declared.failure.Failure.{Failure}
use Rattle.ats_answers.specs.declared.failure.Failure.TheVariants.{Memory as NoMemory}
use Rattle.ats_answers.specs.Making.{tables_in, table_in, MakesNone, FailsToMake, AreMade}
use Rattle.rail_model.specs.Move.{Live}
use Rattle.rail_model.proofs.Sound.{live}

pub table_count : (D : Doc) → length (tables_in D) ≡ length D.tables
table_count D = length-map D.tables (λ t. t.table)

pub table_of_doc : (D : Doc) (t : ℕ) → t < length D.tables → table_in (tables_in D) t ≡ table_at D t
table_of_doc D t lt = get_or-map (λ t. t.table) D.tables t _ _ lt

-- The tree is the table's certificate by the rule, and the table accepts it.
pub record IsMadeAt (tables : List Table) (budget : ℕ) (trees : List Tree) (t : ℕ) : Type 0 where
  pub made : Makes (table_in tables t) budget (cert (tree_at trees t))
  pub accepted : Accepts (table_in tables t) (tree_at trees t)

-- So have the first tables.
pub record AreMadeBelow (tables : List Table) (budget n : ℕ) (trees : List Tree) : Type 0 where
  pub one_each : length trees ≡ n
  pub each : (t : ℕ) → t < n → IsMadeAt tables budget trees t

-- one more
pub made_more : (tables : List Table) (budget n : ℕ) (trees longer : List Tree) (T : Table) (c : Tree) → AreMadeBelow tables budget n trees → longer ≡ trees ++ c ∷ []
    → T ≡ table_in tables n → Makes T budget (cert c) → Accepts T c → AreMadeBelow tables budget (n + 1) longer
made_more tables budget n trees longer T c so is table made accepted = record {
  one_each = ap length is ∙ length-append trees (c ∷ []) ∙ (let one : length trees + 1 ≡ n + 1 = omega (arith, so.one_each) in one);
  each = λ t lt. elim (cases_eq t n) [
    | inl same ↦
        let place : t ≡ length trees = same ∙ sym so.one_each in
        let here : tree_at longer t ≡ c = (λ i. tree_at (is i) (place i)) ∙ get_or-append_seam trees c [] _ in
        record {
          made = subst (λ (U : Table). Makes U budget (cert (tree_at longer t))) (table ∙ ap (table_in tables) (sym same)) (subst (λ (d : Tree). Makes T budget (cert d)) (sym here) made);
          accepted = subst (λ (U : Table). Accepts U (tree_at longer t)) (table ∙ ap (table_in tables) (sym same)) (subst (Accepts T) (sym here) accepted);
        }
    | inr other ↦
        let before = so.each t (omega (arith, lt, other)) in
        let here : tree_at longer t ≡ tree_at trees t = ap (λ ts. tree_at ts t) is ∙ get_or_append_left trees (c ∷ []) _ t (omega (arith, lt, other, so.one_each)) in
        record {
          made = subst (λ (d : Tree). Makes (table_in tables t) budget (cert d)) (sym here) before.made;
          accepted = subst (Accepts (table_in tables t)) (sym here) before.accepted;
        }
  ];
}

-- the first of which none is made
pub none_at : (tables : List Table) (budget n : ℕ) (trees : List Tree) (T : Table) (e : Failure) → AreMadeBelow tables budget n trees → n < length tables → T ≡ table_in tables n
    → (e ≡ NoMemory) ⊎ MakesNone T n budget e → (e ≡ NoMemory) ⊎ FailsToMake tables budget e
none_at tables budget n trees T e so within table h = elim h [
  | inl memory ↦ inl memory
  | inr none ↦
      inr (record {
        table = n;
        in_range = within;
        earlier = λ u lt. (tree_at trees u, (so.each u lt).made);
        none = subst (λ (U : Table). MakesNone U n budget e) table none;
      })
]

-- the table after those that are done
pub table_behind : (tables done rest : List Table) (T : Table) → tables ≡ done ++ T ∷ rest → T ≡ table_in tables (length done)
table_behind tables done rest T whole = sym (get_or-append_seam done T rest _) ∙ ap (λ ts. table_in ts (length done)) (sym whole)

pub some_behind : (tables done rest : List Table) (T : Table) → tables ≡ done ++ T ∷ rest → length done < length tables
some_behind tables done rest T whole = let size = ap length whole ∙ length-append done (T ∷ rest) in omega (arith, size)

-- one more table beside its certificate
pub part_more : (tables : List Table) (budget : ℕ) (done rest : List Table) (parts longer : List (Table × Tree)) (T : Table) (c : Tree) → tables ≡ done ++ T ∷ rest
    → map (λ p. p.0) parts ≡ done → AreMadeBelow tables budget (length done) (map (λ p. p.1) parts) → longer ≡ parts ++ (T, c) ∷ [] → Makes T budget (cert c) → Accepts T c
    → (map (λ p. p.0) longer ≡ done ++ T ∷ []) × AreMadeBelow tables budget (length (done ++ T ∷ [])) (map (λ p. p.1) longer)
part_more tables budget done rest parts longer T c whole are so pushed made accepted =
    let trees = ap (map (λ p. p.1)) pushed ∙ map-append (λ p. p.1) parts ((T, c) ∷ []) in
    let more = made_more tables budget (length done) (map (λ p. p.1) parts) (map (λ p. p.1) longer) T c so trees (table_behind tables done rest T whole) made accepted in
    let size : length (done ++ T ∷ []) ≡ length done + 1 = length-append done (T ∷ []) in (
      ap (map (λ p. p.0)) pushed ∙ map-append (λ p. p.0) parts ((T, c) ∷ []) ∙ ap (λ ts. ts ++ T ∷ []) are,
      subst (λ n. AreMadeBelow tables budget n (map (λ p. p.1) longer)) (sym size) more,
    )

-- the table of a document after those that are done
module _ (D : Doc) (done rest : List Table) (T : Table) (whole : tables_in D ≡ done ++ T ∷ rest) where
  pub doc_behind : length done < length D.tables
  doc_behind = omega (arith, some_behind (tables_in D) done rest T whole, table_count D)

  pub doc_table_behind : T ≡ table_at D (length done)
  doc_table_behind = table_behind (tables_in D) done rest T whole ∙ table_of_doc D (length done) doc_behind

-- each table for which a certificate is made is live
pub made_live : (D : Doc) (budget : ℕ) (trees : List Tree) → AreMade (tables_in D) budget trees → (t : ℕ) → t < length D.tables → Live (table_at D t)
made_live D budget trees made t lt =
    subst Live (table_of_doc D t lt) (live _ (tree_at trees t) (made.accepted t (omega (arith, lt, table_count D))))
