-- From what is said of the bytes after a document to what is said of the whole input.
use Rattle.std.proofs.Common.{◌≡◌, ◌⊎◌, ℕ, List, refl, sym, subst, inl, inr}
use Rattle.std.specs.Prelude.{Ok}
use Rattle.rail_model.specs.Certificate.{Tree}
use Rattle.document_json.specs.Doc.{Doc, IsDoc}
use Rattle.document_json.specs.Reading.{doc_of}
use Rattle.accepted_documents.specs.Accepting.{AreAccepted}
use Rattle.accepted_documents.specs.Replaying.{IsNotWhole, LeadsNowhere}
use Rattle.accepted_documents.specs.declared.refused.BadJournal.{BadJournal}
use Rattle.accepted_documents.specs.declared.refused.BadJournal.TheVariants.{Memory, Text, Line}
use Rattle.ats_answers.specs.declared.failure.Failure.{Failure}
use Rattle.ats_answers.specs.declared.failure.Failure.TheVariants.{Memory as NoMemory}
use Rattle.ats_answers.specs.Refusing.{RefusesVerify, RefusesResume}
use Rattle.ats_answers.specs.Ending.{failure_of_journal}
use Rattle.ats_answers.specs.Journals.{IsCutAt, IsVerified, IsUnverified, IsUnreadable, FailsToVerify, FailsToResume, document_part, journal_part, IsVerifiedInput}

-- The input is cut into these two.
abbrev pub IsCutInto : List ℕ → List ℕ → List ℕ → Type 0
IsCutInto input document given =
    (k : ℕ) × IsCutAt input k × (document ≡ document_part input k) × (given ≡ journal_part input k)

module _ (input document given : List ℕ) (cut : IsCutInto input document given) (D : Doc) (is : doc_of document ≡ Ok D) where
  read : doc_of (document_part input cut.0) ≡ Ok D
  read = subst (λ (xs : List ℕ). doc_of xs ≡ Ok D) cut.2 is

  pub verified_input : (written : List ℕ) → IsVerified D given written → IsVerifiedInput input written
  verified_input written verified =
      (cut.0, cut.1, (D, read, subst (λ (xs : List ℕ). IsVerified D xs written) cut.3 verified))

  module _ (trees : List Tree) (doc : IsDoc D) (accepted : AreAccepted D trees) where
    pub verify_refused : (cause : BadJournal) → IsNotWhole D given cause
        → (failure_of_journal cause ≡ NoMemory) ⊎ RefusesVerify input (failure_of_journal cause)
    verify_refused Memory h = inl refl
    verify_refused (Text cause) h =
        inr (
          cut.0,
          cut.1,
          (
            D,
            read,
            subst (λ (xs : List ℕ). IsUnreadable D xs cause) cut.3
                (record { formed = doc; trees = trees; accepted = accepted; fault = h }),
          ),
        )
    verify_refused (Line cause) h =
        inr (
          cut.0,
          cut.1,
          (
            D,
            read,
            subst (λ (xs : List ℕ). FailsToVerify D xs cause) cut.3
                (record { formed = doc; journal = h.0; trees = trees; accepted = accepted; text = h.1; fault = h.2 }),
          ),
        )

    pub resume_refused : (cause : BadJournal) → LeadsNowhere D given cause
        → (failure_of_journal cause ≡ NoMemory) ⊎ RefusesResume input (failure_of_journal cause)
    resume_refused Memory h = inl refl
    resume_refused (Text cause) h =
        inr (
          cut.0,
          cut.1,
          (
            D,
            read,
            (
              subst (λ (xs : List ℕ). IsUnreadable D xs cause) cut.3
                  (record { formed = doc; trees = trees; accepted = accepted; fault = h.0 }),
              h.1,
            ),
          ),
        )
    resume_refused (Line cause) h =
        inr (
          cut.0,
          cut.1,
          (
            D,
            read,
            subst (λ (xs : List ℕ). FailsToResume D xs cause) cut.3
                (record { formed = doc; journal = h.0; trees = trees; accepted = accepted; fault = h.1 }),
          ),
        )

    -- a failure of the check of the given bytes refuses the input
    pub unverified_input : (e : Failure) → (e ≡ NoMemory) ⊎ IsUnverified D given e → (e ≡ NoMemory) ⊎ RefusesVerify input e
    unverified_input e h = elim h [
      | inl memory ↦ inl memory
      | inr bad ↦
          subst (λ (x : Failure). (x ≡ NoMemory) ⊎ RefusesVerify input x) (sym bad.1) (verify_refused bad.0 bad.2)
    ]
