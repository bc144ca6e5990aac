-- What certifying a document comes to: its text with certificates, or a line that says why it has none.
use Rattle.std.specs.Prelude.{◌≡◌, ◌⊎◌, ℕ, List, ◌++◌, codes, decimal, Ok, Err}
use Rattle.document_certificates.specs.Certified.{HasNone, IsCertified}
use Rattle.document_certificates.specs.declared.uncertified.Uncertified.{Uncertified}
use Rattle.document_certificates.specs.declared.uncertified.Uncertified.TheVariants.{Memory, Stuck, GaveUp}
use Rattle.document_json.specs.Doc.{Doc}
use Rattle.document_json.specs.Reading.{doc_of}
use Rattle.document_json.specs.declared.refused.DocRefused.{DocRefused}
use Rattle.refusal_lines.specs.Documents.{document_words}
use Rattle.refusal_lines.specs.Makers.{stuck_words}
use Rattle.run_sentences.specs.Told.{TellsRun}

-- The input is a document, and the text is it with other certificates alone, of at most so many nodes each, which its tables
-- accept.
pub record IsCertifiedInput (input : List ℕ) (budget : ℕ) (text : List ℕ) : Type 0 where
  pub document : Doc
  pub is_read : doc_of input ≡ Ok document
  pub is_certified : IsCertified document budget text

-- the words for a table of which no certificate was found, after so many nodes
abbrev pub gave_up_words : ℕ → ℕ → List ℕ
gave_up_words t nodes = codes "table " ++ decimal t ++ codes ": gave up after " ++ decimal nodes ++ codes " nodes; whether it has a certificate isn't known"

-- The lines name a stuck state of table t, and tell what is known of runs to it.
pub record TellsStuck (D : Doc) (t : ℕ) (p lines : List ℕ) : Type 0 where
  pub run : List ℕ
  pub tells : TellsRun D t p run
  pub are_lines : lines ≡ (stuck_words t p ++ codes "\n") ++ run

-- The lines say so of a document that gets no certificates.
abbrev pub SaysWhy : Doc → Uncertified → List ℕ → Type 0
SaysWhy D Memory lines = ⊥
SaysWhy D (Stuck t p) lines = TellsStuck D t p lines
SaysWhy D (GaveUp t nodes) lines = lines ≡ gave_up_words t nodes ++ codes "\n"

-- the line for an input that is no document
abbrev pub refused_line : DocRefused → List ℕ
refused_line refused = codes "ats refuses the document: " ++ document_words refused ++ codes "\n"

-- The lines say why a document gets no certificates.
pub record TellsWhyNone (D : Doc) (budget : ℕ) (lines : List ℕ) : Type 0 where
  pub why : Uncertified
  pub has_none : HasNone D budget why
  pub says : SaysWhy D why lines

-- The input is a document, and the lines say why it gets no certificates.
pub record IsUncertifiedInput (input : List ℕ) (budget : ℕ) (lines : List ℕ) : Type 0 where
  pub document : Doc
  pub is_read : doc_of input ≡ Ok document
  pub tells : TellsWhyNone document budget lines

-- The input is no document, and the line says why.
pub record IsRefusedInput (input line : List ℕ) : Type 0 where
  pub refused : DocRefused
  pub is_refused : doc_of input ≡ Err refused
  pub is_line : line ≡ refused_line refused

-- The lines say why the input gets no certificates: it is no document; or a state of a table is stuck, which the lines name, with what is
-- known of runs to it; or the searches for a table's certificate gave up.
abbrev pub IsCertifyingFault : List ℕ → ℕ → List ℕ → Type 0
IsCertifyingFault input budget lines = IsRefusedInput input lines ⊎ IsUncertifiedInput input budget lines
