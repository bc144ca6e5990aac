-- What is so of bytes, by what was read of them.
use Rattle.std.proofs.Common.{◌≡◌, ℕ, List, inl, inr, sym, subst}
use Rattle.std.specs.Prelude.{Result, Ok, Err, MatchResult}
use Rattle.rail_model.specs.Turns.{AnswersAs}
use Rattle.document_json.specs.Doc.{Doc}
use Rattle.document_json.specs.Reading.{doc_of}
use Rattle.document_json.specs.declared.refused.DocRefused.{DocRefused}
use Rattle.document_json.specs.declared.refused.DocRefused.TheVariants.{Memory}
use Rattle.document_facts.specs.Facts.{Holds}
use Rattle.document_facts.specs.Former.{HoldsSince}
use Rattle.document_lint.specs.Told.{HoldsAfter, HoldsOf}
use Rattle.document_facts.specs.declared.fact.Fact.{Fact}
use Rattle.document_facts.specs.declared.fact.Fact.TheVariants.{Refused, FormerRefused}

-- bytes that were read are this document
pub read_as : (bytes : List ℕ) (read : Result Doc DocRefused) (D : Doc) → AnswersAs Memory (λ d. d) read (doc_of bytes) → read ≡ Ok D → doc_of bytes ≡ Ok D
read_as bytes read D right is = subst (λ r. AnswersAs Memory (λ d. d) r (doc_of bytes)) is right

-- bytes that were refused, for another cause than memory, are no document
pub refused_as : (bytes : List ℕ) (e : DocRefused) → AnswersAs Memory (λ d. d) (Err e) (doc_of bytes) → (e ≡ Memory → ⊥) → doc_of bytes ≡ Err e
refused_as bytes e (inl memory) other = absurd (other memory)
refused_as bytes e (inr is) other = is

module _ (bytes : List ℕ) (f : Fact) where
  pub so_of : (D : Doc) → doc_of bytes ≡ Ok D → Holds D f → HoldsOf bytes f
  so_of D is h = subst (λ r. MatchResult r (λ D. Holds D f) (λ e. Refused ≡ f)) (sym is) h

  pub of_so : (D : Doc) → doc_of bytes ≡ Ok D → HoldsOf bytes f → Holds D f
  of_so D is h = subst (λ r. MatchResult r (λ D. Holds D f) (λ e. Refused ≡ f)) is h

  pub so_refused : (e : DocRefused) → doc_of bytes ≡ Err e → Refused ≡ f → HoldsOf bytes f
  so_refused e is h = subst (λ r. MatchResult r (λ D. Holds D f) (λ e. Refused ≡ f)) (sym is) h

  pub refused_so : (e : DocRefused) → doc_of bytes ≡ Err e → HoldsOf bytes f → Refused ≡ f
  refused_so e is h = subst (λ r. MatchResult r (λ D. Holds D f) (λ e. Refused ≡ f)) is h

module _ (bytes former : List ℕ) (f : Fact) where
  abbrev IsSo : Result Doc DocRefused → Result Doc DocRefused → Type 0
  IsSo old new = MatchResult old (λ F. MatchResult new (λ D. HoldsSince D F f) (λ e. ⊥)) (λ e. FormerRefused ≡ f)

  pub so_since : (D F : Doc) → doc_of bytes ≡ Ok D → doc_of former ≡ Ok F → HoldsSince D F f → HoldsAfter bytes former f
  so_since D F is was h = subst (λ r. IsSo r (doc_of bytes)) (sym was) (subst (λ r. IsSo (Ok F) r) (sym is) h)

  pub since_so : (D F : Doc) → doc_of bytes ≡ Ok D → doc_of former ≡ Ok F → HoldsAfter bytes former f → HoldsSince D F f
  since_so D F is was h = subst (λ r. IsSo (Ok F) r) is (subst (λ r. IsSo r (doc_of bytes)) was h)

  pub none_since : (e : DocRefused) (F : Doc) → doc_of bytes ≡ Err e → doc_of former ≡ Ok F → HoldsAfter bytes former f → ⊥
  none_since e F is was h = subst (λ r. IsSo (Ok F) r) is (subst (λ r. IsSo r (doc_of bytes)) was h)

  pub so_former : (e : DocRefused) → doc_of former ≡ Err e → FormerRefused ≡ f → HoldsAfter bytes former f
  so_former e was h = subst (λ r. IsSo r (doc_of bytes)) (sym was) h

  pub former_so : (e : DocRefused) → doc_of former ≡ Err e → HoldsAfter bytes former f → FormerRefused ≡ f
  former_so e was h = subst (λ r. IsSo r (doc_of bytes)) was h
