-- Inputs that give a document, and lines with which a run of it begins.
use Rattle.std.proofs.Common.{◌⊎◌, ℕ, List, Result, Ok, Err}
use Rattle.std.specs.Prelude.{IfOk}
use Rattle.rail_model.specs.declared.types.Line.{Line}
use Rattle.rail_model.specs.Journal.{Journal}
use Rattle.document_json.specs.Doc.{Doc}
use Rattle.run_orders.specs.RunOrdered.{HasJournal, IsAlone, IsInputByRun, IsOrderedByRun, IsRunFrom}
use Rattle.run_orders.specs.declared.reading.RunOrdered.{RunOrdered}
use Rattle.run_orders.specs.declared.refused.RunRefused.{RunRefused}

-- what is made of the document and the lines is made of the input that gives them
pub of_input : (input : List ℕ) (D : Doc) (begun : List Line) (answer : Result RunOrdered RunRefused)
    → IsAlone input D begun ⊎ HasJournal input D begun
    → IfOk answer (λ made. (run : Journal) × IsRunFrom D begun run × IsOrderedByRun D run made.text.items)
    → IfOk answer (λ made. IsInputByRun input made.text.items)
of_input input D begun (Ok made) gives holds =
    record { document = D; begun = begun; run = holds.0; gives = gives; is_run = holds.1; is_ordered = holds.2 }
of_input input D begun (Err e) gives holds = tt
