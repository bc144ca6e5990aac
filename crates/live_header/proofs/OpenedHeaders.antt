-- What refuses a header's parts refuses the header.
use Rattle.std.proofs.Common.{◌≡◌, ◌⊎◌, ℕ, List, refl, sym, subst, inl, inr}
use Rattle.std.specs.Prelude.{Result, IfErr, Ok}
use Rattle.std.specs.Result.{IsErrAnd}
use Rattle.std.proofs.Math.Logic.{⊎_map}
use Rattle.document_json.specs.Doc.{Doc}
use Rattle.document_json.specs.Reading.{doc_of}
use Rattle.document_json.proofs.Refusals.{refused-so}
use Rattle.accepted_documents.specs.Accepting.{IsUnaccepted}
use Rattle.accepted_documents.specs.declared.refused.Unaccepted.{Unaccepted}
use Rattle.accepted_documents.specs.declared.refused.Unaccepted.TheVariants as unaccepted
use Rattle.live_header.specs.Journals.{IsBroken}
use Rattle.live_header.specs.Opening.{IsOther, RefusesHeader}
use Rattle.live_header.specs.Refusing.{refused_document}
use Rattle.live_header.specs.Scan.{Header}
use Rattle.live_header.specs.declared.refused.Refused.{Refused}
use Rattle.live_header.specs.declared.refused.Refused.TheVariants.{Memory as NoMemory, Other, Document, Tree, Certificate, Text, Line}

-- a caller passes up a refusal: it is out of memory, or refuses what the caller was given
pub passed_up : {A Fault : Type 0} (P : Refused → Type 0) (r : Result A Refused) (e : Refused)
    → IsErrAnd r (λ y. y ≡ e) → (Fault → P e) → (e ≡ NoMemory) ⊎ Fault → IfErr r (λ e. (e ≡ NoMemory) ⊎ P e)
passed_up P r e is leads cause = refused-so (λ e. (e ≡ NoMemory) ⊎ P e) r e is (⊎_map (λ m. m) leads cause)

-- another document
pub other_refused : (h : Header) (e : Refused) → IsOther h e → RefusesHeader h e
other_refused h Other so = so
other_refused h NoMemory so = absurd so
other_refused h (Document e) so = absurd so
other_refused h (Tree t e) so = absurd so
other_refused h (Certificate t e) so = absurd so
other_refused h (Text e) so = absurd so
other_refused h (Line e) so = absurd so

-- a journal that leads nowhere
pub journal_refused : (h : Header) (D : Doc) (e : Refused) → doc_of h.document ≡ Ok D → IsBroken D h.journal e
    → RefusesHeader h e
journal_refused h D (Text cause) document so = (D, document, so)
journal_refused h D (Line cause) document so = (D, document, so)
journal_refused h D NoMemory document so = absurd so
journal_refused h D Other document so = absurd so
journal_refused h D (Document e) document so = absurd so
journal_refused h D (Tree t e) document so = absurd so
journal_refused h D (Certificate t e) document so = absurd so

told : (h : Header) (cause : Unaccepted) → IsUnaccepted h.document cause
    → (refused_document cause ≡ NoMemory) ⊎ RefusesHeader h (refused_document cause)
told h unaccepted.Memory so = inl refl
told h (unaccepted.Document e) so = inr so
told h (unaccepted.Tree t e) so = inr so
told h (unaccepted.Certificate t e) so = inr so

-- a document that isn't accepted
pub document_refused : (h : Header) (input : List ℕ) (cause : Unaccepted) (e : Refused) → input ≡ h.document
    → e ≡ refused_document cause → IsUnaccepted input cause → (e ≡ NoMemory) ⊎ RefusesHeader h e
document_refused h input cause e same is so =
    subst (λ (x : Refused). (x ≡ NoMemory) ⊎ RefusesHeader h x) (sym is)
    (told h cause (subst (λ (bytes : List ℕ). IsUnaccepted bytes cause) same so))
