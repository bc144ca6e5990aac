-- Why an input is refused.
use Rattle.std.specs.Prelude.{◌≡◌, ◌≢◌, ◌⊎◌, ℕ, List, Err}
use Rattle.move_journal.specs.declared.faults.BadText.{BadText}
use Rattle.move_journal.specs.declared.faults.BadText.TheVariants.{NoEnd}
use Rattle.move_journal.specs.declared.faults.BadLine.{BadLine}
use Rattle.document_json.specs.Doc.{Doc}
use Rattle.document_json.specs.Trees.{IsNoTree}
use Rattle.document_json.specs.Reading.{doc_of}
use Rattle.document_json.specs.declared.refused.DocRefused.{DocRefused}
use Rattle.ats_answers.specs.declared.failure.Failure.{Failure}
use Rattle.ats_answers.specs.declared.failure.Failure.TheVariants.{Document, Tree, Certificate, NoJournal, Text, Line}
use Rattle.accepted_documents.specs.Accepting.{IsBadTable, IsDocWith}
use Rattle.ats_answers.specs.Journals.{IsCutAt, HasNoCut, document_part, IsUnreadable, FailsToVerify, FailsToResume, IsPairWith}
use Rattle.ats_answers.specs.Deriving.{FailsToDerive}
use Rattle.ats_answers.specs.Making.{tables_in, FailsToMake}
use Rattle.ats_answers.specs.Repairing.{FailsToRepair}

-- The bytes are no document, for the first cause.
abbrev pub RefusesDocument : List ℕ → Failure → Type 0
RefusesDocument input e = (cause : DocRefused) × (e ≡ Document cause) × (doc_of input ≡ Err cause)

-- The bytes are no document with a certificate for each table: the first refusal in the order document, trees, certificates.
abbrev pub RefusesCheck : List ℕ → Failure → Type 0
RefusesCheck input (Document e) = doc_of input ≡ Err e
RefusesCheck input (Tree t e) = IsDocWith input (λ D. IsNoTree D t e)
RefusesCheck input (Certificate t bad) = IsDocWith input (λ D. IsBadTable D t bad)
RefusesCheck input e = ⊥

-- Why an input of a document and a journal is refused: it has no line between the two; the document is; the text is, for a cause of the first
-- kind; its lines are, for one of the second.
abbrev pub RefusesPair : (Doc → List ℕ → BadText → Type 0) → (Doc → List ℕ → BadLine → Type 0) → List ℕ → Failure → Type 0
RefusesPair HasBadText HasBadLine input NoJournal = HasNoCut input
RefusesPair HasBadText HasBadLine input (Text cause) = IsPairWith input (λ D given. HasBadText D given cause)
RefusesPair HasBadText HasBadLine input (Line cause) = IsPairWith input (λ D given. HasBadLine D given cause)
RefusesPair HasBadText HasBadLine input e = (k : ℕ) × IsCutAt input k × RefusesCheck (document_part input k) e

-- Why `verify` refuses an input.
abbrev pub RefusesVerify : List ℕ → Failure → Type 0
RefusesVerify input e = RefusesPair IsUnreadable FailsToVerify input e

-- Why `resume` refuses an input.
abbrev pub RefusesResume : List ℕ → Failure → Type 0
RefusesResume input e = RefusesPair (λ D given cause. IsUnreadable D given cause × (cause ≢ NoEnd)) FailsToResume input e

-- Why `make` refuses an input: it is no document, or a table gets no certificate.
abbrev pub RefusesMake : List ℕ → ℕ → Failure → Type 0
RefusesMake input budget e = RefusesDocument input e ⊎ IsDocWith input (λ D. FailsToMake (tables_in D) budget e)

-- Why `derive` refuses an input: it is no document, or its tables don't take the sections of their rings, or get no certificates.
abbrev pub RefusesDerive : List ℕ → ℕ → ℕ → Failure → Type 0
RefusesDerive input most budget e = RefusesDocument input e ⊎ IsDocWith input (λ D. FailsToDerive D most budget e)

-- Why `repair` refuses an input: it is no document, or its tables aren't repaired so that its start stays legal.
abbrev pub RefusesRepair : List ℕ → ℕ → ℕ → Failure → Type 0
RefusesRepair input budget rounds e = RefusesDocument input e ⊎ IsDocWith input (λ D. FailsToRepair D budget rounds e)
