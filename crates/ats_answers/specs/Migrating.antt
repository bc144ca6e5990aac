-- What bringing a document to version 2 comes to.
use Rattle.std.specs.Prelude.{◌≡◌, ℕ, List, Ok}
use Rattle.document_json.specs.Doc.{Doc}
use Rattle.document_json.specs.Migrated.{migrated, IsMigrated}
use Rattle.document_json.specs.Reading.{doc_of}
use Rattle.document_json.specs.Written.{written as text_of}

-- The bytes are the text of the document in version 2, or of a later one as it is. They read as it, and it differs from the document
-- in its version alone.
pub record IsMigratedText (D : Doc) (written : List ℕ) : Type 0 where
  pub printed : written ≡ text_of (migrated D)
  pub reads : doc_of written ≡ Ok (migrated D)
  pub same : IsMigrated D (migrated D)
