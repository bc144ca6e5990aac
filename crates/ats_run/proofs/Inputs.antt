-- From the parts of an input to what is said of the whole.
use Rattle.std.proofs.Common.{◌≡◌, ℕ, List, subst}
use Rattle.std.specs.Prelude.{Ok}
use Rattle.shared_run.specs.declared.crews.Crew.{Crew}
use Rattle.document_json.specs.Doc.{Doc}
use Rattle.document_json.specs.Reading.{doc_of}
use Rattle.ats_run.specs.Command.{IsResumedInput}
use Rattle.ats_answers.specs.Journals.{IsCutAt, document_part, journal_part}
use Rattle.ats_run.specs.Resuming.{IsResumed}

pub resumed_input : (crew : Crew) (input document given written : List ℕ)
    → (k : ℕ) × IsCutAt input k × (document ≡ document_part input k) × (given ≡ journal_part input k) → (D : Doc) → doc_of document ≡ Ok D → IsResumed D crew given written → IsResumedInput crew input written
resumed_input crew input document given written cut D is resumed = (
  cut.0,
  cut.1,
  (
    D,
    subst (λ (xs : List ℕ). doc_of xs ≡ Ok D) cut.2 is,
    subst (λ (xs : List ℕ). IsResumed D crew xs written) cut.3 resumed,
  ),
)
