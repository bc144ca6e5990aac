-- What adding orders to a document comes to.
use Rattle.std.specs.Prelude.{◌≡◌, ℕ, List, Ok}
use Rattle.document_orders.specs.Ordered.{IsOrdered}
use Rattle.document_json.specs.Doc.{Doc}
use Rattle.document_json.specs.Reading.{doc_of}

-- The input is a document, and the text is it with sections behind its own that keep orders.
pub record IsOrderedInput (input text : List ℕ) : Type 0 where
  pub document : Doc
  pub is_read : doc_of input ≡ Ok document
  pub is_ordered : IsOrdered document text
