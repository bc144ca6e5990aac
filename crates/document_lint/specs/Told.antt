-- What is said of bytes: what is so of the document that they are, or that they are none.
use Rattle.std.specs.Prelude.{◌≡◌, ℕ, List, Option, Some, None, map, MatchResult, Contains}
use Rattle.document_json.specs.Reading.{doc_of}
use Rattle.document_facts.specs.Adding.{Or}
use Rattle.document_facts.specs.Facts.{Holds}
use Rattle.document_facts.specs.Former.{HoldsSince}
use Rattle.document_facts.specs.declared.fact.Fact.{Fact}
use Rattle.document_facts.specs.declared.fact.Fact.TheVariants.{Refused, Member, FormerRefused}
use Rattle.document_facts.specs.declared.member.MemberFact.{MemberFact}
use Rattle.document_lint.specs.declared.remark.Remark.{Remark}
use denote.Ref.{Bor}

-- What is so of bytes: of a document, what holds of it; of others, that they are refused.
abbrev pub HoldsOf : List ℕ → Fact → Type 0
HoldsOf bytes f = MatchResult (doc_of bytes) (λ D. Holds D f) (λ e. Refused ≡ f)

-- What is so of bytes after former ones: of two documents, what is gone; and of former ones that are no document, that they are refused.
abbrev pub HoldsAfter : List ℕ → List ℕ → Fact → Type 0
HoldsAfter bytes former f =
    MatchResult (doc_of former) (λ F. MatchResult (doc_of bytes) (λ D. HoldsSince D F f) (λ e. ⊥)) (λ e. FormerRefused ≡ f)

-- What is so of bytes, and of them after former ones, if there are some.
abbrev pub IsSoOf : Option (Bor (List ℕ)) → List ℕ → Fact → Type 0
IsSoOf None bytes = HoldsOf bytes
IsSoOf (Some former) bytes = Or (HoldsOf bytes) (HoldsAfter bytes former.now)

-- It is said of members of the text that are ignored, or are the likely cause of a refusal.
abbrev pub IsOfMembers : Fact → Type 0
IsOfMembers f = (what : MemberFact) × (Member what ≡ f)

-- It is of members, or so.
abbrev pub IsRight : (Fact → Type 0) → Fact → Type 0
IsRight IsSo = Or IsOfMembers IsSo

-- The facts are right, and all that is so is among them.
pub record AreAll (IsSo : Fact → Type 0) (facts : List Fact) : Type 0 where
  pub right : (f : Fact) → Contains facts f → IsRight IsSo f
  pub whole : (f : Fact) → IsSo f → Contains facts f

-- what remarks say
abbrev pub facts_of : List Remark → List Fact
facts_of remarks = map (λ r. r.fact) remarks

-- Each remark says what is so, or is of members; and all that is so is said.
abbrev pub AreRemarks : (Fact → Type 0) → List Remark → Type 0
AreRemarks IsSo remarks = AreAll IsSo (facts_of remarks)
