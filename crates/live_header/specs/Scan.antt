-- The parts of a header, byte by byte.
use Rattle.std.specs.Prelude.{ℕ, ◌==◌, List, [], ◌∷◌, ◌++◌, codes, map, if◌then◌else◌}
use Rattle.std.specs.List.{concat, fold}
use Rattle.std.specs.Str.{bytes_eq}
use Rattle.live_header.specs.declared.scanning.Stage.{Stage}
use Rattle.live_header.specs.declared.scanning.Stage.TheVariants.{Document, Journal, Live}
use Rattle.live_header.specs.Naming.{is_live}

abbrev pub newline : ℕ
newline = 10

-- A header as far as it is read: the part that is read, the bytes of the document and of the journal, the line that
-- begins the session, and the bytes of the line that has begun. What follows the header is such a line too.
pub record Header : Type 0 where
  pub stage : Stage
  pub document : List ℕ
  pub journal : List ℕ
  pub live : List ℕ
  pub line : List ℕ

-- a header that begins after these bytes of its document
abbrev pub started : List ℕ → Header
started document = record { stage = Document; document = document; journal = []; live = []; line = [] }

-- a line of the document, or the line between the document and the journal
abbrev pub after_document_line : Header → Header
after_document_line h =
    if bytes_eq h.line (codes "journal") then record h { stage = Journal; line = [] }
    else record h { document = h.document ++ h.line ++ (newline ∷ []); line = [] }

-- a line of the journal, or the line that begins the session
abbrev pub after_journal_line : Header → Header
after_journal_line h =
    if is_live h.line then record h { stage = Live; live = h.line; line = [] }
    else record h { journal = h.journal ++ h.line ++ (newline ∷ []); line = [] }

-- the line that has begun goes on
abbrev pub with_byte : Header → ℕ → Header
with_byte h byte = record h { line = h.line ++ (byte ∷ []) }

abbrev pub after_newline : Header → Header
after_newline h = elim h.stage [
  | Document ↦ after_document_line h
  | Journal ↦ after_journal_line h
  | Live ↦ with_byte h newline
]

abbrev pub after_byte : Header → ℕ → Header
after_byte h byte = if byte == newline then after_newline h else with_byte h byte

abbrev pub after_bytes : Header → List ℕ → Header
after_bytes h bytes = fold after_byte h bytes

-- lines, each with its newline
abbrev pub text_of : List (List ℕ) → List ℕ
text_of lines = concat (map (λ line. line ++ (newline ∷ [])) lines)
