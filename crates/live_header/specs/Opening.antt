-- What a header opens, and why it opens nothing.
use Rattle.std.specs.Prelude.{◌≡◌, Ok, true, false, string_bytes}
use Rattle.document_json.specs.Doc.{offers_of}
use Rattle.document_json.specs.Reading.{doc_of}
use Rattle.accepted_documents.specs.Accepting.{AreAccepted, IsDocWith}
use Rattle.live_header.specs.Accepting.{RefusesCheck}
use Rattle.live_header.specs.Hashing.{hash_text}
use Rattle.live_header.specs.Journals.{IsBroken, LeadsTo}
use Rattle.live_header.specs.Naming.{has_reports, suits}
use Rattle.live_header.specs.Scan.{Header}
use Rattle.live_header.specs.declared.opening.Opened.{Opened}
use Rattle.live_header.specs.declared.refused.Refused.{Refused}
use Rattle.live_header.specs.declared.refused.Refused.TheVariants.{Other, Text, Line}

-- The header's document is one whose tables accept their certificates, the header names no other, and its journal
-- leads to the state.
pub record IsOpened (h : Header) (opened : Opened) : Type 0 where
  pub hash : string_bytes opened.hash ≡ hash_text h.document
  pub named : suits h.live (hash_text h.document) ≡ true
  pub document : doc_of h.document ≡ Ok opened.doc
  pub accepted : AreAccepted opened.doc opened.certs.items
  pub tables : opened.tables.items ≡ offers_of opened.doc
  pub leads : LeadsTo opened.doc h.journal opened.state
  pub reports : opened.reports ≡ has_reports h.live

-- The header names another document.
abbrev pub IsOther : Header → Refused → Type 0
IsOther h Other = suits h.live (hash_text h.document) ≡ false
IsOther h e = ⊥

-- Why a header opens nothing: it names another document; its document or a certificate is refused; its journal is.
abbrev pub RefusesHeader : Header → Refused → Type 0
RefusesHeader h Other = suits h.live (hash_text h.document) ≡ false
RefusesHeader h (Text cause) = IsDocWith h.document (λ D. IsBroken D h.journal (Text cause))
RefusesHeader h (Line cause) = IsDocWith h.document (λ D. IsBroken D h.journal (Line cause))
RefusesHeader h e = RefusesCheck h.document e
