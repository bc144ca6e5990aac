-- Tables that get certificates one after another.
use Rattle.std.proofs.Common.{◌≡◌, ℕ, ◌+◌, ◌<◌, List, [], ◌∷◌, ◌++◌, length, sym, ◌∙◌, ap, subst, arith, inl, inr}
use Rattle.std.proofs.lemmas.Bool.{cases_eq}
use Rattle.std.proofs.lemmas.List.{get_or_append_left, length-append}
use Rattle.std.proofs.Math.Seq.{get_or-append_seam}
use Rattle.rail_model.specs.Certificate.{Tree}
use Rattle.rail_model.specs.Move.{Stuck as IsStuck}
use Rattle.document_json.specs.Doc.{Doc, table_at}
use Rattle.document_json.specs.Trees.{tree_at}
use Rattle.document_certificates.specs.declared.uncertified.Uncertified.{Uncertified}
use Rattle.document_certificates.specs.declared.uncertified.Uncertified.TheVariants.{Memory, Stuck, GaveUp}
use Rattle.document_certificates.specs.Certified.{AcceptsWithin, FailsFor, HasNone}

-- The first n tables have trees that they accept.
pub record AcceptBelow (D : Doc) (budget n : ℕ) (trees : List Tree) : Type 0 where
  pub one_each : length trees ≡ n
  pub accepted : (t : ℕ) → t < n → AcceptsWithin budget (table_at D t) (tree_at trees t)

pub one_more : (D : Doc) (budget n : ℕ) (trees longer : List Tree) (c : Tree) → AcceptBelow D budget n trees → longer ≡ trees ++ c ∷ [] → AcceptsWithin budget (table_at D n) c → AcceptBelow D budget (n + 1) longer
one_more D budget n trees longer c so is accepted = record {
  one_each = ap length is ∙ length-append trees (c ∷ []) ∙ (let one : length trees + 1 ≡ n + 1 = omega (arith, so.one_each) in one);
  accepted = λ t lt. elim (cases_eq t n) [
    | inl same ↦
        let place : t ≡ length trees = same ∙ sym so.one_each in
        let here : tree_at longer t ≡ c = (λ i. tree_at (is i) (place i)) ∙ get_or-append_seam trees c [] _ in
        subst (λ (k : ℕ). AcceptsWithin budget (table_at D k) (tree_at longer t)) (sym same) (subst (AcceptsWithin budget (table_at D n)) (sym here) accepted)
    | inr other ↦
        let here : tree_at longer t ≡ tree_at trees t = ap (λ ts. tree_at ts t) is ∙ get_or_append_left trees (c ∷ []) _ t (omega (arith, lt, other, so.one_each)) in
        subst (AcceptsWithin budget (table_at D t)) (sym here) (so.accepted t (omega (arith, lt, other)))
  ];
}

-- a table that gets none is one of the document's
pub fails_in : (D : Doc) (budget n : ℕ) (e : Uncertified) → n < length D.tables → FailsFor (table_at D n) budget n e → HasNone D budget e
fails_in D budget n Memory lt fails = tt
fails_in D budget n (Stuck t p) lt fails =
    (subst (λ k. k < length D.tables) (sym fails.0) lt, subst (λ k. IsStuck (table_at D k) p) (sym fails.0) fails.1)
fails_in D budget n (GaveUp t nodes) lt fails = (subst (λ k. k < length D.tables) (sym fails.0) lt, fails.1)
