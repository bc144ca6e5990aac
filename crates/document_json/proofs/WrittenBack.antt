-- What is written of a document reads as the document.
use Rattle.std.proofs.Common.{◌≡◌, ◌∙◌, ℕ, List, Ok, ap}
use Rattle.rail_model.specs.Turns.{in_turn}
use Rattle.document_shapes.specs.Raw.{members_of}
use Rattle.document_json.specs.Doc.{Doc}
use Rattle.document_json.specs.Keeps.{IsTaken}
use Rattle.document_json.specs.Members.{members_in}
use Rattle.document_json.specs.Reading.{doc_of, doc_from}
use Rattle.document_json.specs.Tables.{refused_as}
use Rattle.document_json.specs.declared.refused.DocRefused.TheVariants.{Shape}

pub doc-back : (D : Doc) (bytes : List ℕ) → IsTaken D → members_of bytes ≡ Ok (members_in D) → doc_of bytes ≡ Ok D
unfolding doc_of
doc-back D bytes taken read = ap (λ r. in_turn (refused_as Shape r) doc_from) read ∙ taken
