-- How a header goes on by bytes, and that whole headers are read as their parts.
use Rattle.std.proofs.Common.{◌≡◌, ◌≢◌, ℕ, suc, ◌+◌, ◌<◌, List, [], ◌∷◌, ◌++◌, length, take, get_or, Bool, true, false, sym, ap, inl, inr, ◌∙◌, arith, append_assoc, append-nil}
use Rattle.std.specs.Prelude.{if◌then◌else◌, All, codes}
use Rattle.std.specs.Str.{bytes_eq}
use Rattle.std.proofs.lemmas.Bool.Decides.{eqb_tells}
use Rattle.std.proofs.lemmas.List.{take_more}
use Rattle.std.proofs.lemmas.List.Sums.{fold-append}
use Rattle.live_header.specs.declared.scanning.Stage.TheVariants.{Document, Journal, Live}
use Rattle.live_header.specs.Naming.{is_live}
use Rattle.live_header.specs.Scan.{Header, after_byte, after_bytes, after_newline, newline, started, text_of, with_byte}

-- one byte more
pub after_one_more : (h now after : Header) (bytes : List ℕ) (k : ℕ) → k < length bytes
    → now ≡ after_bytes h (take k bytes)
    → after ≡ after_byte now (get_or bytes k 0) → after ≡ after_bytes h (take (k + 1) bytes)
after_one_more h now after bytes k lt same is =
    is ∙ ap (λ x. after_byte x (get_or bytes k 0)) same
    ∙ sym (ap (after_bytes h) (take_more bytes k 0 lt)
    ∙ fold-append after_byte h (take k bytes) (get_or bytes k 0 ∷ []))

-- further bytes
pub after_more : (h : Header) (first later : List ℕ)
    → after_bytes h (first ++ later) ≡ after_bytes (after_bytes h first) later
after_more h first later = fold-append after_byte h first later

-- a byte that isn't a newline
abbrev pub IsOther : ℕ → Type 0
IsOther byte = byte ≢ newline

other_byte : (h : Header) (byte : ℕ) → IsOther byte → after_byte h byte ≡ with_byte h byte
other_byte h byte other = elim (eqb_tells byte newline) [
  | inl (holds, same) ↦ absurd (other same)
  | inr (fails, apart) ↦ ap (λ (b : Bool). if b then after_newline h else with_byte h byte) fails
]

-- a line that goes on by bytes without a newline
abbrev with_bytes : Header → List ℕ → Header
with_bytes h bytes = record h { line = h.line ++ bytes }

other_bytes : (bytes : List ℕ) (h : Header) → All IsOther bytes → after_bytes h bytes ≡ with_bytes h bytes
other_bytes [] h others = ap (λ l. record h { line = l }) (sym (append-nil h.line))
other_bytes (byte ∷ rest) h others =
    ap (λ x. after_bytes x rest) (other_byte h byte (others 0 0 (omega arith)))
    ∙ other_bytes rest (with_byte h byte) (λ k d lt. others (suc k) d (omega arith))
    ∙ ap (λ l. record h { line = l }) (append_assoc h.line (byte ∷ []) rest)

-- a line and its newline
whole_line : (line : List ℕ) (h : Header) → All IsOther line
    → after_bytes h (line ++ (newline ∷ [])) ≡ after_newline (with_bytes h line)
whole_line line h others = fold-append after_byte h line (newline ∷ [])
    ∙ ap (λ x. after_byte x newline) (other_bytes line h others)

-- a header within its document, and one within its journal, at the beginning of a line
abbrev in_document : List ℕ → Header
in_document document = record { stage = Document; document = document; journal = []; live = []; line = [] }

abbrev in_journal : List ℕ → List ℕ → Header
in_journal document journal = record { stage = Journal; document = document; journal = journal; live = []; line = [] }

abbrev in_session : List ℕ → List ℕ → List ℕ → List ℕ → Header
in_session document journal live rest = record
    { stage = Live; document = document; journal = journal; live = live; line = rest }

document_line : (line document : List ℕ) → All IsOther line → bytes_eq line (codes "journal") ≡ false
    → after_bytes (in_document document) (line ++ (newline ∷ [])) ≡ in_document (document ++ line ++ (newline ∷ []))
document_line line document others apart =
    whole_line line (in_document document) others
    ∙ ap (λ (b : Bool). if b then in_journal document [] else in_document (document ++ line ++ (newline ∷ []))) apart

document_lines : (lines : List (List ℕ)) (document : List ℕ) → All (All IsOther) lines
    → All (λ line. bytes_eq line (codes "journal") ≡ false) lines
    → after_bytes (in_document document) (text_of lines) ≡ in_document (document ++ text_of lines)
document_lines [] document others apart = ap in_document (sym (append-nil document))
document_lines (line ∷ later) document others apart =
    fold-append after_byte (in_document document) (line ++ (newline ∷ [])) (text_of later)
    ∙ ap (λ h. after_bytes h (text_of later))
    (document_line line document (others 0 [] (omega arith)) (apart 0 [] (omega arith)))
    ∙ document_lines later (document ++ line ++ (newline ∷ [])) (λ k d lt. others (suc k) d (omega arith))
    (λ k d lt. apart (suc k) d (omega arith))
    ∙ ap in_document (ap (λ l. l ++ text_of later) (append_assoc document line (newline ∷ []))
    ∙ append_assoc document (line ++ (newline ∷ [])) (text_of later))

journal_line : (line document journal : List ℕ) → All IsOther line → is_live line ≡ false
    → after_bytes (in_journal document journal) (line ++ (newline ∷ [])) ≡ in_journal document
    (journal ++ line ++ (newline ∷ []))
journal_line line document journal others apart =
    whole_line line (in_journal document journal) others
    ∙ ap (λ (b : Bool). if b then in_session document journal line [] else in_journal document
    (journal ++ line ++ (newline ∷ []))) apart

journal_lines : (lines : List (List ℕ)) (document journal : List ℕ) → All (All IsOther) lines
    → All (λ line. is_live line ≡ false) lines
    → after_bytes (in_journal document journal) (text_of lines) ≡ in_journal document (journal ++ text_of lines)
journal_lines [] document journal others apart = ap (in_journal document) (sym (append-nil journal))
journal_lines (line ∷ later) document journal others apart =
    fold-append after_byte (in_journal document journal) (line ++ (newline ∷ [])) (text_of later)
    ∙ ap (λ h. after_bytes h (text_of later))
    (journal_line line document journal (others 0 [] (omega arith)) (apart 0 [] (omega arith)))
    ∙ journal_lines later document (journal ++ line ++ (newline ∷ [])) (λ k d lt. others (suc k) d (omega arith))
    (λ k d lt. apart (suc k) d (omega arith))
    ∙ ap (in_journal document) (ap (λ l. l ++ text_of later) (append_assoc journal line (newline ∷ []))
    ∙ append_assoc journal (line ++ (newline ∷ [])) (text_of later))

live_line : (line document journal : List ℕ) → All IsOther line → is_live line ≡ true
    → after_bytes (in_journal document journal) (line ++ (newline ∷ [])) ≡ in_session document journal line []
live_line line document journal others live =
    whole_line line (in_journal document journal) others
    ∙ ap (λ (b : Bool). if b then in_session document journal line [] else in_journal document
    (journal ++ line ++ (newline ∷ []))) live

live_byte : (document journal live rest : List ℕ) (byte : ℕ)
    → after_byte (in_session document journal live rest) byte ≡ in_session document journal live (rest ++ (byte ∷ []))
live_byte document journal live rest byte = elim (eqb_tells byte newline) [
  | inl (holds, same) ↦
      ap (λ (b : Bool). if b then in_session document journal live
      (rest ++ (newline ∷ [])) else in_session document journal live (rest ++ (byte ∷ []))) holds
      ∙ ap (λ b. in_session document journal live (rest ++ (b ∷ []))) (sym same)
  | inr (fails, apart) ↦
      ap (λ (b : Bool). if b then in_session document journal live
      (rest ++ (newline ∷ [])) else in_session document journal live (rest ++ (byte ∷ []))) fails
]

-- all bytes after the header are its rest
pub live_bytes : (bytes document journal live rest : List ℕ)
    → after_bytes (in_session document journal live rest) bytes ≡ in_session document journal live (rest ++ bytes)
live_bytes [] document journal live rest = ap (in_session document journal live) (sym (append-nil rest))
live_bytes (byte ∷ later) document journal live rest =
    ap (λ h. after_bytes h later) (live_byte document journal live rest byte)
    ∙ live_bytes later document journal live (rest ++ (byte ∷ []))
    ∙ ap (in_session document journal live) (append_assoc rest (byte ∷ []) later)

-- a whole header
pub whole_header : (document journal : List (List ℕ)) (live rest : List ℕ)
    → All (All IsOther) document → All (λ line. bytes_eq line (codes "journal") ≡ false) document
    → All (All IsOther) journal → All (λ line. is_live line ≡ false) journal
    → All IsOther live → is_live live ≡ true
    → after_bytes (started [])
    (text_of document ++ codes "journal\n" ++ text_of journal ++ (live ++ (newline ∷ [])) ++ rest)
    ≡ in_session (text_of document) (text_of journal) live rest
whole_header document journal live rest others no_journal given no_live one begins =
    let a = text_of document in
    let b = codes "journal\n" in
    let d = text_of journal in
    let e = live ++ (newline ∷ []) in
    fold-append after_byte (started []) (a ++ b ++ d ++ e) rest
    ∙ ap (λ h. after_bytes h rest) (
    fold-append after_byte (started []) (a ++ b ++ d) e
    ∙ ap (λ h. after_bytes h e) (
    fold-append after_byte (started []) (a ++ b) d
    ∙ ap (λ h. after_bytes h d) (fold-append after_byte (started []) a b
    ∙ ap (λ h. after_bytes h b) (document_lines document [] others no_journal))
    ∙ journal_lines journal a [] given no_live
    )
    ∙ live_line live a d one begins
    )
    ∙ live_bytes rest a d live []
