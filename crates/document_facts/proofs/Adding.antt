-- How facts that are added one after the other come together.
use Rattle.std.proofs.Common.{◌≡◌, ◌+◌, ℕ, inl, inr, subst, arith}
use Rattle.std.specs.Prelude.{◌↔◌, Contains}
use Rattle.std.proofs.lemmas.Bool.{cases_lt}
use Rattle.document_facts.specs.declared.fact.Fact.{Fact}
use Rattle.document_facts.specs.declared.found.Found.{Found}
use Rattle.document_facts.specs.Adding.{Adds, AddsIf, Below, Is, IsIn, IsLost, Nothing, Or}

module _ (IsRight : Fact → Type 0) where
  -- a fact that is added if it is right
  pub one : (holds : Type 0) (fact : Fact) (old new : Found) → holds ↔ IsRight fact → AddsIf holds fact old new → Adds IsRight (Is IsRight fact) old new
  one holds fact old new right adds = record {
    still = adds.still;
    added = λ f is. subst (IsIn new) is.0 (adds.added (right.1 is.1));
    only = λ f is. elim (adds.only f is) [
      | inl before ↦ inl before
      | inr here ↦ inr (subst IsRight here.1 (right.0 here.0))
    ];
  }

  -- the facts of one kind, and then those of another
  pub both : (P Q : Fact → Type 0) (a b c : Found) → Adds IsRight P a b → Adds IsRight Q b c → Adds IsRight (Or P Q) a c
  both P Q a b c first second = record {
    still = λ f is. second.still f (first.still f is);
    added = λ f is. elim is [
      | inl p ↦ second.still f (first.added f p)
      | inr q ↦ second.added f q
    ];
    only = λ f is. elim (second.only f is) [
      | inl before ↦ first.only f before
      | inr here ↦ inr here
    ];
  }

  -- nothing is added for no number
  pub none : (K : ℕ → Fact → Type 0) (a : Found) → Adds IsRight (Below K 0) a a
  none K a = record {
    still = λ f is. is;
    added = λ f is. absurd (let lt = is.1 in omega (arith, lt));
    only = λ f is. inl is;
  }

  -- the facts of the numbers below one, and then those of it
  pub next : (K : ℕ → Fact → Type 0) (n : ℕ) (a b c : Found) → Adds IsRight (Below K n) a b → Adds IsRight (K n) b c → Adds IsRight (Below K (n + 1)) a c
  next K n a b c below here = record {
    still = λ f is. here.still f (below.still f is);
    added = λ f is. elim (cases_lt is.0 n) [
      | inl less ↦ here.still f (below.added f (is.0, less, is.2))
      | inr past ↦ let lt = is.1 in let same : is.0 ≡ n = omega (arith, lt, past) in here.added f (subst (λ k. K k f) same is.2)
    ];
    only = λ f is. elim (here.only f is) [
      | inl before ↦ below.only f before
      | inr now ↦ inr now
    ];
  }

  -- the same of fewer facts
  pub fewer : (P Q : Fact → Type 0) (a b : Found) → ((f : Fact) → Q f → P f) → Adds IsRight P a b → Adds IsRight Q a b
  fewer P Q a b less adds = record {
    still = adds.still;
    added = λ f is. adds.added f (less f is);
    only = adds.only;
  }

  -- a fact that is the only one of its kind
  pub only_one : (make : ℕ → Fact) (k : ℕ) (a b : Found) → ((j : ℕ) → IsRight (make j) → j ≡ k) → Adds IsRight (Is IsRight (make k)) a b →
      Adds IsRight (λ f. (j : ℕ) × Is IsRight (make j) f) a b
  only_one make k a b one adds =
      fewer (Is IsRight (make k)) (λ f. (j : ℕ) × Is IsRight (make j) f) a b (λ f is. subst (λ j. Is IsRight (make j) f) (one is.0 is.1.1) is.1) adds

  -- nothing is added of a kind that has no fact
  pub nothing : (P : Fact → Type 0) (a : Found) → ((f : Fact) → P f → ⊥) → Adds IsRight P a a
  nothing P a denied = record { still = λ f is. is; added = λ f is. absurd (denied f is); only = λ f is. inl is }

  -- no kind, and then no kind
  pub no_more : (a b c : Found) → Adds IsRight Nothing a b → Adds IsRight Nothing b c → Adds IsRight Nothing a c
  no_more a b c first second = fewer (Or Nothing Nothing) Nothing a c (λ f is. inl is) (both Nothing Nothing a b c first second)

  -- what there was no memory for
  pub lost : (P : Fact → Type 0) (a b : Found) → b.facts ≡ a.facts → IsLost b → Adds IsRight P a b
  lost P a b same gone = record {
    still = λ f is. inl gone;
    added = λ f is. inl gone;
    only = λ f is. inl (subst (λ facts. Contains facts.items f) same is);
  }

  -- the same by another count
  pub up_to : (K : ℕ → Fact → Type 0) (m n : ℕ) (a b : Found) → m ≡ n → Adds IsRight (Below K m) a b → Adds IsRight (Below K n) a b
  up_to K m n a b same adds = subst (λ n. Adds IsRight (Below K n) a b) same adds

-- what is right in one way is right in another
pub righter : (A B P : Fact → Type 0) (a b : Found) → ((f : Fact) → A f → B f) → Adds A P a b → Adds B P a b
righter A B P a b more adds = record {
  still = adds.still;
  added = adds.added;
  only = λ f is. elim (adds.only f is) [
    | inl before ↦ inl before
    | inr here ↦ inr (more f here)
  ];
}
