-- Runs of a document, and a document with the orders of a run.
use Rattle.std.specs.Prelude.{◌≡◌, ◌⊎◌, ℕ, ◌<◌, List, [], ◌++◌, length, Ok}
use Rattle.rail_model.specs.declared.types.Line.{Line}
use Rattle.rail_model.specs.Certificate.{Tree}
use Rattle.rail_model.specs.Journal.{Journal, IsWhole}
use Rattle.rail_model.specs.State.{Legal}
use Rattle.rail_model.specs.Table.{Table, Section, IsTable}
use Rattle.rail_model.specs.Yard.{opening}
use Rattle.move_journal.specs.Answers.{IsTextPart}
use Rattle.move_journal.specs.declared.lines.Part.{Part}
use Rattle.move_journal.specs.declared.lines.Part.TheVariants.{Whole, Open}
use Rattle.document_json.specs.Doc.{Doc, names_of, nodes_at, offers_of, table_at}
use Rattle.document_json.specs.Migrated.{IsMigrated}
use Rattle.document_json.specs.Reading.{doc_of}
use Rattle.document_json.specs.Replaced.{new_table, replaced}
use Rattle.document_json.specs.Written.{written}
use Rattle.order_sections.specs.Grids.{table_at as table_in}
use Rattle.order_sections.specs.Orders.{with_more}
use Rattle.document_orders.specs.Ordered.{KeepsTree, new_tree}
use Rattle.timed_reading.specs.Reads.{mark}

-- The run is one of the document, to its end, and begins with these lines.
pub record IsRunFrom (D : Doc) (begun : List Line) (J : Journal) : Type 0 where
  pub later : List Line
  pub begins : J.lines ≡ begun ++ later
  pub whole : IsWhole (offers_of D) (opening D.start) J

-- The tables are those of the document with more sections behind their own, and its start is legal under the first.
pub record HaveMore (later : Doc) (made : List Table) : Type 0 where
  pub one_each : length made ≡ length later.tables
  pub formed : (t : ℕ) → t < length later.tables → IsTable (table_in made t)
  pub more : (t : ℕ) → t < length later.tables → (more : List Section) × (table_in made t ≡ with_more (table_at later t) more)
  pub start : Legal (table_in made 0) later.start

-- Tables and certificates for the document in version 2 or later: each table has more sections behind its own, and each certificate is the
-- document's own, if its nodes spell one.
pub record AddsSectionsTo (D later : Doc) (parts : List (Table × Tree)) : Type 0 where
  pub migrated : IsMigrated D later
  pub one_each : length parts ≡ length later.tables
  pub more : (t : ℕ) → t < length later.tables → (more : List Section) × (new_table parts t ≡ with_more (table_at later t) more)
  pub trees : (t : ℕ) → t < length D.tables → KeepsTree (nodes_at D t) (new_tree parts t)

-- The text is the document with such tables, all else equal, and reads back as it. The run is one of it, too, to its end.
pub record IsOrderedByRun (D : Doc) (J : Journal) (text : List ℕ) : Type 0 where
  pub later : Doc
  pub parts : List (Table × Tree)
  pub adds : AddsSectionsTo D later parts
  pub keeps_run : IsWhole (offers_of (replaced later parts)) (opening D.start) J
  pub is_text : text ≡ written (replaced later parts)
  pub reads_back : doc_of text ≡ Ok (replaced later parts)

-- The text is that of the document and reads back as it, and the run is one of it, to its end.
pub record IsTextWithRun (D : Doc) (J : Journal) (text : List ℕ) : Type 0 where
  pub whole : IsWhole (offers_of D) (opening D.start) J
  pub is_text : text ≡ written D
  pub reads_back : doc_of text ≡ Ok D

-- the lines of a journal's text, with its end line or without it
abbrev pub lines_in : Part → List Line
lines_in (Whole J) = J.lines
lines_in (Open J) = J.lines

-- The input is the document alone, and gives no line.
abbrev pub IsAlone : List ℕ → Doc → List Line → Type 0
IsAlone input D begun = (doc_of input ≡ Ok D) × (begun ≡ [])

-- The input is the document, the line `journal`, and the text of a journal that has these lines.
pub record HasJournal (input : List ℕ) (D : Doc) (begun : List Line) : Type 0 where
  pub document : List ℕ
  pub journal : List ℕ
  pub text : input ≡ document ++ mark ++ journal
  pub reads : doc_of document ≡ Ok D
  pub part : Part
  pub is_text : IsTextPart (names_of D) journal part
  pub lines : lines_in part ≡ begun

-- The input is a document, with or without a journal, and the text is it with the orders of a run of it that begins with the
-- journal's lines.
pub record IsInputByRun (input text : List ℕ) : Type 0 where
  pub document : Doc
  pub begun : List Line
  pub run : Journal
  pub gives : IsAlone input document begun ⊎ HasJournal input document begun
  pub is_run : IsRunFrom document begun run
  pub is_ordered : IsOrderedByRun document run text
