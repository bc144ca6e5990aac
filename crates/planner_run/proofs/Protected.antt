-- What is answered to an order to protect, told by what is written.
use Rattle.std.proofs.Common.{◌≡◌, ℕ, List, inl, inr}
use Rattle.std.specs.Prelude.{Ok, Err}
use Rattle.document_protection.specs.Protected.{HasNone, IsProtected}
use Rattle.document_protection.specs.Words.{unprotected_words}
use Rattle.document_protection.specs.declared.unprotected.Unprotected.{Unprotected}
use Rattle.forbidden_states.specs.Forbid.{Stay}
use Rattle.document_json.specs.Doc.{Doc}
use Rattle.document_json.specs.Reading.{doc_of}
use Rattle.document_json.specs.declared.refused.DocRefused.{DocRefused}
use Rattle.planner_run.specs.Answered.{IsProtecting, IsWrong}
use Rattle.planner_run.specs.Certifying.{refused_line}
use Rattle.planner_run.specs.Protecting.{IsProtectedInput}
use Rattle.planner_run.specs.declared.answer.Answer.{Answer}
use Rattle.planner_run.specs.declared.answer.Answer.TheVariants.{Text, Remarks, Noted, Wrong}

module _ (input : List ℕ) where
  pub refused_guards : (refused : DocRefused) (a : Answer) → doc_of input ≡ Err refused → IsWrong (refused_line refused) a → IsProtecting input a
  refused_guards refused (Text text) is wrong = absurd wrong
  refused_guards refused (Remarks lines) is wrong = absurd wrong
  refused_guards refused (Noted text lines) is wrong = absurd wrong
  refused_guards refused (Wrong lines) is wrong = inl (record { refused = refused; is_refused = is; is_line = wrong })

  module _ (D : Doc) (is : doc_of input ≡ Ok D) where
    pub protected_answers : (guards : List (List (List Stay))) (text : List ℕ) → IsProtected D guards text → IsProtectedInput input text
    protected_answers guards text made = record { document = D; guards = guards; is_read = is; is_protected = made }

    pub unprotected_answers : (why : Unprotected) (a : Answer) → HasNone D why → IsWrong (unprotected_words D why) a → IsProtecting input a
    unprotected_answers why (Text text) none wrong = absurd wrong
    unprotected_answers why (Remarks lines) none wrong = absurd wrong
    unprotected_answers why (Noted text lines) none wrong = absurd wrong
    unprotected_answers why (Wrong lines) none wrong =
        inr (record { document = D; is_read = is; tells = record { why = why; has_none = none; are_lines = wrong } })
