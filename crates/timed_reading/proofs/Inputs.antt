-- Inputs that are a document and a journal.
use Rattle.std.proofs.Common.{◌≡◌, ◌∙◌, ℕ, List, ◌++◌, Ok, sym, ap, subst}
use Rattle.document_json.specs.Doc.{Doc}
use Rattle.document_json.specs.Reading.{doc_of}
use Rattle.timed_reading.specs.Reads.{IsInputOf, IsReadFrom, IsTimedRun, ToldBy, mark}
use Rattle.timed_reading.specs.Runs.{IsToldRun}
use Rattle.timed_reading.specs.declared.reading.Timed.{Timed}
use Rattle.timed_reading.specs.declared.reading.Timed.TheVariants.{Run, Fault}

-- what a journal tells is a run of the document
pub told_is_run : (D : Doc) (journal : List ℕ) (timed : Timed) → ToldBy D journal timed → IsTimedRun timed
told_is_run D journal (Run doc run) told = subst (λ (d : Doc). IsToldRun d run) (sym told.0) (record { lines = told.1.lines; tells = told.1.tells })
told_is_run D journal (Fault words) told = tt

-- and the input is its text
pub told_is_read : (input given journal : List ℕ) (D : Doc) → doc_of given ≡ Ok D → input ≡ given ++ mark ++ journal → (timed : Timed) → ToldBy D journal timed → IsReadFrom input timed
told_is_read input given journal D reads cut (Run doc run) told = subst (λ (d : Doc). IsInputOf input d run) (sym told.0) (record {
  document = given;
  lines = told.1.lines;
  reads = reads;
  tells = told.1.tells;
  text = cut ∙ ap (λ (j : List ℕ). given ++ mark ++ j) told.1.text;
})
told_is_read input given journal D reads cut (Fault words) told = tt
