-- What is answered to an order to certify, told by what is written.
use Rattle.std.proofs.Common.{◌≡◌, ℕ, List, inl, inr}
use Rattle.std.specs.Prelude.{Ok, Err}
use Rattle.document_certificates.specs.Certified.{HasNone, IsCertified}
use Rattle.document_certificates.specs.declared.uncertified.Uncertified.{Uncertified}
use Rattle.document_json.specs.Doc.{Doc}
use Rattle.document_json.specs.Reading.{doc_of}
use Rattle.document_json.specs.declared.refused.DocRefused.{DocRefused}
use Rattle.planner_run.specs.Answered.{IsCertifying, IsWrong}
use Rattle.planner_run.specs.Certifying.{IsCertifiedInput, IsCertifyingFault, SaysWhy, refused_line}
use Rattle.planner_run.specs.declared.answer.Answer.{Answer}
use Rattle.planner_run.specs.declared.answer.Answer.TheVariants.{Text, Remarks, Noted, Wrong}

module _ (input : List ℕ) (budget : ℕ) where
  pub refused_answers : (refused : DocRefused) (a : Answer) → doc_of input ≡ Err refused → IsWrong (refused_line refused) a → IsCertifying input budget a
  refused_answers refused (Text text) is wrong = absurd wrong
  refused_answers refused (Remarks lines) is wrong = absurd wrong
  refused_answers refused (Noted text lines) is wrong = absurd wrong
  refused_answers refused (Wrong lines) is wrong = inl (record { refused = refused; is_refused = is; is_line = wrong })

  module _ (D : Doc) (is : doc_of input ≡ Ok D) where
    pub certified_answers : (text : List ℕ) → IsCertified D budget text → IsCertifiedInput input budget text
    certified_answers text certified = record { document = D; is_read = is; is_certified = certified }

    pub uncertified_answers : (why : Uncertified) (lines : List ℕ) → HasNone D budget why → SaysWhy D why lines → IsCertifyingFault input budget lines
    uncertified_answers why lines none says =
        inr (record { document = D; is_read = is; tells = record { why = why; has_none = none; says = says } })
