-- What a document, and a line that names a state, are explained with.
use Rattle.std.proofs.Common.{◌≡◌, ℕ, List, String, Vec, Global}
use Rattle.std.specs.Prelude.{Result, Ok, Err, IfOk}
use Rattle.document_json.specs.Doc.{Doc}
use Rattle.document_json.specs.Reading.{doc_of}
use Rattle.refusal_sentences.specs.Explains.{ExplainsIn, OfDocument, ExplainsState}
use Rattle.refusal_sentences.specs.StateLines.{NamesState, IsLineOf}
use Rattle.refusal_sentences.specs.ExplainedLines.{ExplainsItsState, ExplainsLine}
use Rattle.refusal_sentences.specs.declared.explained.Explained.{Explained}
use Rattle.refusal_sentences.specs.declared.explained.Explained.TheVariants.{State, Refusal, NotLegal, NoTable, NoDocument, NoLine}

module _ (bytes : List ℕ) (names : List (Vec (String Global) Global)) (line words : List ℕ) (t : ℕ) (p : List ℕ) (is_line : IsLineOf line words) (is_named : NamesState words t p) where
  of_state : (told : Explained) → ExplainsState bytes names t p told → ExplainsItsState bytes names line told
  of_state told h = record { words = words; table = t; places = p; is_line = is_line; is_named = is_named; explains = h }

  told_of_line : (told : Explained) → ExplainsState bytes names t p told → ExplainsLine bytes names line told
  told_of_line (State text) h = of_state (State text) h
  told_of_line (NotLegal cause text) h = of_state (NotLegal cause text) h
  told_of_line (NoTable tables text) h = of_state (NoTable tables text) h
  told_of_line (NoDocument refused text) h = of_state (NoDocument refused text) h
  told_of_line (Refusal text) h = tt
  told_of_line (NoLine text) h = tt

  pub told_if_ok : {E : Type 0} (r : Result Explained E) → IfOk r (ExplainsState bytes names t p) → IfOk r (ExplainsLine bytes names line)
  told_if_ok (Ok told) h = told_of_line told h
  told_if_ok (Err e) h = tt

module _ (bytes : List ℕ) (names : List (Vec (String Global) Global)) (t : ℕ) (p : List ℕ) (D : Doc) (is_read : doc_of bytes ≡ Ok D) where
  of_document : (told : Explained) → ExplainsIn D names t p told → OfDocument bytes names t p told
  of_document told h = record { document = D; is_read = is_read; explains = h }

  told_of_document : (told : Explained) → ExplainsIn D names t p told → ExplainsState bytes names t p told
  told_of_document (State text) h = of_document (State text) h
  told_of_document (NotLegal cause text) h = of_document (NotLegal cause text) h
  told_of_document (NoTable tables text) h = of_document (NoTable tables text) h
  told_of_document (NoDocument refused text) h = absurd h
  told_of_document (Refusal text) h = h
  told_of_document (NoLine text) h = h

  pub told_if_read : {E : Type 0} (r : Result Explained E) → IfOk r (ExplainsIn D names t p) → IfOk r (ExplainsState bytes names t p)
  told_if_read (Ok told) h = told_of_document told h
  told_if_read (Err e) h = tt
