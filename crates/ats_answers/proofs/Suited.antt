-- An input that suits an order is refused for nothing.
use Rattle.std.proofs.Common.{◌≡◌, ◌≢◌, ◌⊎◌, ℕ, List, sym, ◌∙◌, subst, arith, inl, inr}
use Rattle.std.specs.Prelude.{Ok}
use Rattle.rail_model.specs.Table.{Table}
use Rattle.rail_model.specs.Certificate.{Tree}
use Rattle.memchr.specs.Find.{OccursAt}
use Rattle.rail_model.proofs.Decide.{same_first}
use Rattle.cert_maker.specs.Rule.{Makes}
use Rattle.cert_maker.specs.declared.made.Made.TheVariants.{Cert as cert, Stuck as found, Spent as spent}
use Rattle.cert_maker.proofs.Spelled.{makes_one}
use Rattle.move_journal.specs.declared.faults.BadText.TheVariants.{NoEnd}
use Rattle.document_json.specs.Doc.{Doc}
use Rattle.document_json.specs.Reading.{doc_of}
use Rattle.legal_state.proofs.Verdicts.{illegal_not_legal}
use Rattle.ats_answers.specs.declared.failure.Failure.{Failure}
use Rattle.ats_answers.specs.declared.failure.Failure.TheVariants as failure
use Rattle.accepted_documents.specs.Accepting.{IsDocWith}
use Rattle.ats_answers.specs.Refusing.{RefusesDocument, RefusesCheck, RefusesVerify, RefusesResume, RefusesMake, RefusesDerive, RefusesRepair}
use Rattle.ats_answers.specs.Suited.{IsWholeText, IsRightFront, IsJournalInput, IsDerivable}
use Rattle.ats_answers.specs.Deriving.{derived, FailsToDerive}
use Rattle.ats_answers.specs.Journals.{mark, IsCutAt, document_part, journal_part, IsUnreadable, FailsToVerify, FailsToResume, IsPairWith}
use Rattle.ats_answers.specs.Making.{tables_in, table_in, AreMakeable, FailsToMake, MakesNone}
use Rattle.ats_answers.specs.Repairing.{FailsToRepair, IsRepairable}
use Rattle.ats_answers.proofs.AcceptedInput.{same_doc, not_unchecked}
use Rattle.ats_answers.proofs.Repairable.{not_unrepaired}
use Rattle.ats_answers.proofs.GoodJournals.{readable, verified, begins_readable, resumed}

same_cut : (input : List ℕ) (j k : ℕ) → IsCutAt input j → IsCutAt input k → j ≡ k
same_cut input j k p q = same_first (OccursAt input mark) j k p q

-- what is said of some parts of an input is said of its own
said_of : (input : List ℕ) (P Q : Doc → List ℕ → Type 0) (good : IsJournalInput input P) → IsPairWith input Q → Q good.3.0 (journal_part input good.0)
said_of input P Q good h =
    let moved = subst (λ k. IsDocWith (document_part input k) (λ D. Q D (journal_part input k))) (same_cut input h.0 good.0 h.1 good.1) h.2 in
    subst (λ (E : Doc). Q E (journal_part input good.0)) (same_doc (document_part input good.0) good.3.0 moved.0 good.3.1 moved.1) moved.2

-- the document of such an input is refused for nothing
part_not_unchecked : (input : List ℕ) (P : Doc → List ℕ → Type 0) (good : IsJournalInput input P) (e : Failure)
    → (k : ℕ) × IsCutAt input k × RefusesCheck (document_part input k) e → ⊥
part_not_unchecked input P good e h =
    not_unchecked (document_part input good.0) good.2 e (subst (λ k. RefusesCheck (document_part input k) e) (same_cut input h.0 good.0 h.1 good.1) h.2)

pub not_unverified : (input : List ℕ) (good : IsJournalInput input IsWholeText) (e : Failure) → RefusesVerify input e → ⊥
not_unverified input good failure.NoJournal h = h good.0 good.1.0
not_unverified input good (failure.Text cause) h =
    readable good.3.0 (journal_part input good.0) good.3.2 cause (said_of input IsWholeText (λ D given. IsUnreadable D given cause) good h)
not_unverified input good (failure.Line cause) h =
    verified good.3.0 (journal_part input good.0) good.3.2 cause (said_of input IsWholeText (λ D given. FailsToVerify D given cause) good h)
not_unverified input good e h = part_not_unchecked input IsWholeText good e h

-- the given bytes are a whole journal's text or a right front
abbrev Begins : Doc → List ℕ → Type 0
Begins D given = IsWholeText D given ⊎ IsRightFront D given

pub not_unresumed : (input : List ℕ) (good : IsJournalInput input Begins) (e : Failure) → RefusesResume input e → ⊥
not_unresumed input good failure.NoJournal h = h good.0 good.1.0
not_unresumed input good (failure.Text cause) h =
    let said = said_of input Begins (λ D given. IsUnreadable D given cause × (cause ≢ NoEnd)) good h in
    begins_readable good.3.0 (journal_part input good.0) good.3.2 cause said.0 said.1
not_unresumed input good (failure.Line cause) h =
    resumed good.3.0 (journal_part input good.0) good.3.2 cause (said_of input Begins (λ D given. FailsToResume D given cause) good h)
not_unresumed input good e h = part_not_unchecked input Begins good e h

pub not_no_doc : (input : List ℕ) (D : Doc) → doc_of input ≡ Ok D → (e : Failure) → RefusesDocument input e → ⊥
not_no_doc input D is e h = let both = sym h.2 ∙ is in cc

-- two answers of the maker are one
made_or_not : (T : Table) (budget t : ℕ) (tree : Tree) → Makes T budget (cert tree) → (e : Failure) → MakesNone T t budget e → ⊥
made_or_not T budget t tree good (failure.Spent u n) h = let same = makes_one T budget (cert tree) (spent n) good h.1 in cc
made_or_not T budget t tree good (failure.Stuck u p) h = let same = makes_one T budget (cert tree) (found p) good h.1 in cc
made_or_not T budget t tree good e h = h

pub not_unmade : (input : List ℕ) (budget : ℕ) → IsDocWith input (λ D. AreMakeable (tables_in D) budget) → (e : Failure) → RefusesMake input budget e → ⊥
not_unmade input budget good e (inl h) = not_no_doc input good.0 good.1 e h
not_unmade input budget good e (inr h) =
    let same = same_doc input good.0 h.0 good.1 h.1 in
    let no = subst (λ (E : Doc). FailsToMake (tables_in E) budget e) same h.2 in
    let tree = good.2 no.table no.in_range in
    made_or_not (table_in (tables_in good.0) no.table) budget no.table tree.0 tree.1 e no.none

pub not_underived : (input : List ℕ) (most budget : ℕ) → IsDocWith input (IsDerivable most budget) → (e : Failure) → RefusesDerive input most budget e → ⊥
not_underived input most budget good e (inl h) = not_no_doc input good.0 good.1 e h
not_underived input most budget good e (inr h) =
    let D = good.0 in
    let same = same_doc input D h.0 good.1 h.1 in
    let no = subst (λ (E : Doc). FailsToDerive E most budget e) same h.2 in
    elim no [
      | inl many ↦ let few = good.2.0 many.table many.in_range in omega (arith, few, many.many.1)
      | inr (inl bad) ↦ illegal_not_legal (table_in (derived D most) 0) D.start bad.1.0 bad.1.2 good.2.1
      | inr (inr none) ↦
          let tree = good.2.2 none.2.table none.2.in_range in
          made_or_not (table_in (derived D most) none.2.table) budget none.2.table tree.0 tree.1 e none.2.none
    ]

pub not_repaired : (input : List ℕ) (budget rounds : ℕ) → IsDocWith input (λ D. IsRepairable D budget rounds) → (e : Failure) → RefusesRepair input budget rounds e → ⊥
not_repaired input budget rounds good e (inl h) = not_no_doc input good.0 good.1 e h
not_repaired input budget rounds good e (inr h) =
    not_unrepaired good.0 budget rounds good.2 e (subst (λ (E : Doc). FailsToRepair E budget rounds e) (same_doc input good.0 h.0 good.1 h.1) h.2)
