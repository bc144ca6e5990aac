-- Texts of documents whose tables accept their certificates.
use Rattle.std.specs.Prelude.{◌≡◌, ℕ, List, Ok}
use Rattle.rail_model.specs.Certificate.{Tree}
use Rattle.document_json.specs.Doc.{Doc}
use Rattle.document_json.specs.Reading.{doc_of}
use Rattle.document_json.specs.Written.{written as text_of}
use Rattle.accepted_documents.specs.Accepting.{AreAccepted}

-- The bytes are the text of the document and read as it; each of its tables accepts its tree.
pub record IsAcceptedText (D : Doc) (trees : List Tree) (bytes : List ℕ) : Type 0 where
  pub printed : bytes ≡ text_of D
  pub reads : doc_of bytes ≡ Ok D
  pub accepted : AreAccepted D trees
