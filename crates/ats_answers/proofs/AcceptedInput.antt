-- A document whose tables accept their certificates is refused for nothing.
use Rattle.std.proofs.Common.{◌≡◌, ℕ, List, sym, ◌∙◌, subst}
use Rattle.std.specs.Prelude.{Ok}
use Rattle.rail_model.specs.Certificate.{Tree, FirstBad}
use Rattle.rail_model.proofs.FirstBads.{not_both}
use Rattle.cert_tree.proofs.Spell.{one_tree}
use Rattle.cert_tree.proofs.Verdicts.{refused_not_spelled}
use Rattle.document_json.specs.Doc.{Doc, table_at, nodes_at}
use Rattle.document_json.specs.Trees.{tree_at, IsNoTree}
use Rattle.document_json.specs.Reading.{doc_of}
use Rattle.ats_answers.specs.declared.failure.Failure.{Failure}
use Rattle.ats_answers.specs.declared.failure.Failure.TheVariants as failure
use Rattle.accepted_documents.specs.Accepting.{IsBadTable}
use Rattle.ats_answers.specs.Refusing.{RefusesCheck}
use Rattle.ats_answers.specs.Suited.{IsAcceptedInput}

pub same_doc : (input : List ℕ) (D E : Doc) → doc_of input ≡ Ok D → doc_of input ≡ Ok E → E ≡ D
same_doc input D E d e = let both = sym e ∙ d in let same : E ≡ D = cc in same

-- a document whose tables accept their certificates is refused for nothing
pub not_unchecked : (input : List ℕ) → IsAcceptedInput input → (e : Failure) → RefusesCheck input e → ⊥
not_unchecked input good (failure.Document x) h = let both = sym h ∙ good.1 in cc
not_unchecked input good (failure.Tree t x) h =
    let accepted = good.2.1 in
    let no = subst (λ (E : Doc). IsNoTree E t x) (same_doc input good.0 h.0 good.1 h.1) h.2 in
    let spelled = accepted.are.spelled t no.in_range in
    refused_not_spelled (nodes_at good.0 t) x (tree_at good.2.0 t) no.refused spelled.0 spelled.1
not_unchecked input good (failure.Certificate t bad) h =
    let accepted = good.2.1 in
    let bad_table = subst (λ (E : Doc). IsBadTable E t bad) (same_doc input good.0 h.0 good.1 h.1) h.2 in
    let within = bad_table.2.in_range in
    let same : tree_at bad_table.0 t ≡ tree_at good.2.0 t = one_tree _ _ ((bad_table.1.spelled t within).0 ∙ sym (accepted.are.spelled t within).0) in
    not_both (table_at good.0 t) (tree_at good.2.0 t) bad
    (subst (λ (c : Tree). FirstBad (table_at good.0 t) c bad) same bad_table.2.first_bad) (accepted.accepted t within)
not_unchecked input good e h = h
