-- What is written with certificates that were made reads as a document whose every table accepts its own.
use Rattle.std.proofs.Common.{◌≡◌, ℕ, ◌<◌, ◌≤◌, List, length, get_or, Some, None, refl, sym, ◌∙◌, ap, subst, arith}
use Rattle.std.proofs.lemmas.List.{get_or-map, length-map}
use Rattle.std.specs.Prelude.{Result, Ok, Err, IfOk}
use Rattle.rail_model.specs.declared.types.Node.{Node}
use Rattle.rail_model.specs.Table.{Table}
use Rattle.rail_model.specs.Certificate.{Tree, arrived, preorder, Accepts}
use Rattle.cert_tree.specs.Spelling.{most_nodes}
use Rattle.cert_maker.specs.declared.made.Made.TheVariants.{Cert as cert, Stuck as found}
use Rattle.cert_maker.specs.Rule.{Makes, first_stuck}
use Rattle.cert_maker.proofs.Meaning.{gives_accepted}
use Rattle.cert_maker.proofs.Spelled.{spells, gives_cert, makes_one}
use Rattle.document_json.specs.Doc.{Doc, DocTable, doc_table}
use Rattle.document_json.specs.Reading.{doc_of}
use Rattle.document_json.specs.Replaced.{each_with, exchanged, recertified, replaced, certified}
use Rattle.document_json.specs.Trees.{tree_at}
use Rattle.document_json.specs.Written.{written}
use Rattle.document_json.proofs.Remade.{length-each_with, each_with-at, no_table}
use Rattle.accepted_documents.specs.Accepting.{AreAccepted}
use Rattle.ats_answers.specs.Certificates.{IsAcceptedText}
use Rattle.ats_answers.specs.Suited.{IsAcceptedInput}
use Rattle.ats_answers.specs.Making.{tables_in, table_in, trees_in, part_in, AreMade, HaveMade, IsMade}
use Rattle.ats_answers.specs.Repairing.{AreRepaired}
use Rattle.ats_answers.proofs.Made.{table_count, table_of_doc}

-- The table accepts the certificate, which has few enough nodes to be read.
pub record IsReadable (T : Table) (c : Tree) : Type 0 where
  pub accepted : Accepts T c
  pub few : length (preorder c) ≤ most_nodes

-- a certificate that the maker gives has at most as many nodes as the budget
few_nodes : (T : Table) (budget : ℕ) (c : Tree) → Makes T budget (cert c) → length (preorder c) ≤ budget
few_nodes T budget c m =
    (elim (first_stuck m.0) as (λ o. first_stuck m.0 ≡ o → length (preorder c) ≤ budget) [
      | None ↦ λ none.
          let s = spells T m.0 m.1 none in
          let same = makes_one T budget (cert c) (cert s.0) m (gives_cert T m.0 s.0 budget m.1 none s.1 m.2.1) in
          let is : c ≡ s.0 = cc in
          subst (λ (ns : List Node). length ns ≤ budget) (sym (ap preorder is ∙ s.1)) m.2.1
      | Some p ↦ λ some. let same = makes_one T budget (cert c) (found p) m (m.0, m.1, (some, m.2.1)) in cc
    ]) refl

-- what the maker gives is one
pub made_readable : (T : Table) (budget : ℕ) (c : Tree) → budget ≤ 1000000 → Makes T budget (cert c) → IsReadable T c
made_readable T budget c most makes =
    let few = few_nodes T budget c makes in
    record { accepted = gives_accepted T budget (cert c) makes; few = omega (arith, few, most) }

-- The nodes of the table spell such a certificate.
record IsSpelled (t : DocTable) (c : Tree) : Type 0 where
  nodes : t.nodes ≡ preorder c
  readable : IsReadable t.table c

-- tables that get something else, and then spell certificates, accept them
all_accepted : {X : Type 0} (f : DocTable → X → DocTable) (D : Doc) (xs : List X) (x : X) (trees : List Tree) → length xs ≡ length D.tables → length trees ≡ length D.tables
    → ((t : ℕ) → t < length D.tables → IsSpelled (f (doc_table D t) (get_or xs t x)) (tree_at trees t))
    → AreAccepted (record D { tables = each_with f D.tables xs }) trees
all_accepted f D xs x trees one_each counted spelled =
    let E : Doc = record D { tables = each_with f D.tables xs } in
    let size : length E.tables ≡ length D.tables = length-each_with f D.tables xs one_each in
    let each : (t : ℕ) → t < length E.tables → IsSpelled (doc_table E t) (tree_at trees t) = λ t lt.
    (let within : t < length D.tables = omega (arith, lt, size) in
    subst (λ (u : DocTable). IsSpelled u (tree_at trees t)) (sym (each_with-at f D.tables xs t no_table no_table x one_each within)) (spelled t within)) in
    record {
      are = record {
        one_each = counted ∙ sym size;
        spelled = λ t lt. (sym (each t lt).nodes, subst (λ (ns : List Node). length ns ≤ most_nodes) (sym (each t lt).nodes) (each t lt).readable.few);
      };
      accepted = λ t lt. (each t lt).readable.accepted;
    }

-- ---- other certificates

pub certified_accepted : (D : Doc) (budget : ℕ) (trees : List Tree) → budget ≤ 1000000 → AreMade (tables_in D) budget trees → AreAccepted (certified D trees) trees
certified_accepted D budget trees most are =
    let one_each : length trees ≡ length D.tables = are.one_each ∙ table_count D in
    all_accepted recertified D trees arrived trees one_each one_each
    (λ t lt.
    let makes = are.made t (omega (arith, lt, table_count D)) in
    record {
      nodes = refl;
      readable = subst (λ (T : Table). IsReadable T (tree_at trees t)) (table_of_doc D t lt) (made_readable (table_in (tables_in D) t) budget (tree_at trees t) most makes);
    })

-- the text of a document with the certificates that were made
pub made_text : (D E : Doc) (budget : ℕ) (trees : List Tree) (bytes : List ℕ) → budget ≤ 1000000 → AreMade (tables_in D) budget trees → E ≡ certified D trees
    → bytes ≡ written E → doc_of bytes ≡ Ok E → IsAcceptedText (certified D trees) trees bytes
made_text D E budget trees bytes most are is printed reads = record {
  printed = printed ∙ ap written is;
  reads = reads ∙ ap Ok is;
  accepted = certified_accepted D budget trees most are;
}

-- ---- other tables with their certificates

-- the text of a document with such tables
replaced_text : (D : Doc) (parts : List (Table × Tree)) (bytes : List ℕ) → length parts ≡ length D.tables
    → ((t : ℕ) → t < length D.tables → IsReadable (part_in parts t).0 (part_in parts t).1) → bytes ≡ written (replaced D parts) → doc_of bytes ≡ Ok (replaced D parts)
    → IsAcceptedText (replaced D parts) (trees_in parts) bytes
replaced_text D parts bytes one_each readable printed reads =
    let counted : length (trees_in parts) ≡ length D.tables = length-map parts (λ p. p.1) ∙ one_each in
    record {
      printed = printed;
      reads = reads;
      accepted =
          all_accepted exchanged D parts (no_table.table, arrived) (trees_in parts) one_each counted
          (λ t lt.
          let here : tree_at (trees_in parts) t ≡ (part_in parts t).1 = get_or-map (λ p. p.1) parts t _ _ (omega (arith, lt, one_each)) in
          record {
            nodes = ap preorder (sym here);
            readable = subst (IsReadable (part_in parts t).0) (sym here) (readable t lt);
          });
    }

pub derived_text : (D : Doc) (tables : List Table) (budget : ℕ) (parts : List (Table × Tree)) (bytes : List ℕ) → budget ≤ 1000000 → length tables ≡ length D.tables
    → HaveMade tables budget parts → bytes ≡ written (replaced D parts) → doc_of bytes ≡ Ok (replaced D parts) → IsAcceptedText (replaced D parts) (trees_in parts) bytes
derived_text D tables budget parts bytes most counted have printed reads =
    let one_each : length parts ≡ length D.tables = sym (length-map parts (λ p. p.0)) ∙ ap length have.0 ∙ counted in
    replaced_text D parts bytes one_each
    (λ t lt.
    let within : t < length parts = omega (arith, lt, one_each) in
    let table : table_in tables t ≡ (part_in parts t).0 = ap (λ ts. table_in ts t) (sym have.0) ∙ get_or-map (λ p. p.0) parts t _ _ within in
    let tree : tree_at (trees_in parts) t ≡ (part_in parts t).1 = get_or-map (λ p. p.1) parts t _ _ within in
    let fit = made_readable (table_in tables t) budget (tree_at (trees_in parts) t) most (have.1.made t (omega (arith, lt, counted))) in
    subst (λ (T : Table). IsReadable T (part_in parts t).1) table (subst (IsReadable (table_in tables t)) tree fit))
    printed reads

pub repaired_text : (D : Doc) (budget rounds : ℕ) (parts : List (Table × Tree)) (bytes : List ℕ) → budget ≤ 1000000 → AreRepaired D budget rounds (length D.tables) parts
    → bytes ≡ written (replaced D parts) → doc_of bytes ≡ Ok (replaced D parts) → IsAcceptedText (replaced D parts) (trees_in parts) bytes
repaired_text D budget rounds parts bytes most are printed reads =
    replaced_text D parts bytes are.one_each
    (λ t lt. made_readable (part_in parts t).0 budget (part_in parts t).1 most (are.each t lt).1.5)
    printed reads

-- two facts of a text that was written
pub on_both : {A E : Type 0} (r : Result A E) (P Q R : A → Type 0) → ((a : A) → P a → Q a → R a) → IfOk r P → IfOk r Q → IfOk r R
on_both (Ok a) P Q R f p q = f a p q
on_both (Err e) P Q R f p q = tt

-- ---- as an input

pub accepted_input : (D : Doc) (trees : List Tree) (bytes : List ℕ) → IsAcceptedText D trees bytes → IsAcceptedInput bytes
accepted_input D trees bytes h = (D, h.reads, (trees, h.accepted))

pub made_input : (D : Doc) (budget : ℕ) (bytes : List ℕ) → IsMade D budget bytes → IsAcceptedInput bytes
made_input D budget bytes h = accepted_input (certified D h.0) h.0 bytes h.2
