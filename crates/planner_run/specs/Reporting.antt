-- What pages are.
use Rattle.std.specs.Prelude.{◌≡◌, ◌⊎◌, ℕ, false, List, [], ◌∷◌, ◌++◌, codes, flat_map, length, map, Ok, Option, Some, None, String, Vec, option_map, string_bytes}
use Rattle.std.specs.declared.alloc.Global.{Global}
use Rattle.accepted_documents.specs.Accepting.{AreAccepted}
use Rattle.document_certificates.specs.Certified.{HasNone, IsCertified}
use Rattle.document_certificates.specs.declared.uncertified.Uncertified.{Uncertified}
use Rattle.document_certificates.specs.declared.uncertified.Uncertified.TheVariants.{Memory, Stuck as StuckAt, GaveUp}
use Rattle.document_json.specs.Doc.{Doc, names_of, nodes_at, table_at}
use Rattle.document_json.specs.Reading.{doc_of}
use Rattle.document_lint.specs.Told.{AreRemarks, IsSoOf}
use Rattle.document_lint.specs.declared.remark.Remark.{Remark}
use Rattle.rail_model.specs.Certificate.{Tree}
use Rattle.rail_model.specs.Checks.{below}
use Rattle.refusal_sentences.specs.Explains.{sections_named}
use Rattle.report_page.specs.Page.{IsPage}
use Rattle.report_page.specs.declared.writing.Report.{Report}
use Rattle.report_page.specs.declared.writing.Verdict.{Verdict}
use Rattle.report_page.specs.declared.writing.Verdict.TheVariants.{Certified, Stuck, Undecided}
use Rattle.run_timetable.specs.declared.run.Run.{Run}
use Rattle.state_sentences.specs.Tells.{Tells}
use Rattle.timed_reading.specs.Reads.{mark}
use Rattle.wait_causes.specs.Waits.{AreWaits}
use Rattle.planner_run.specs.Certifying.{gave_up_words}
use Rattle.planner_run.specs.Drawn.{IsGraphOf, IsLayoutAt}
use Rattle.planner_run.specs.Explaining.{IsToldWithRun}
use Rattle.planner_run.specs.Running.{IsRunOf}
use denote.Ref.{Bor}

-- a line for a remark
abbrev pub remark_line : Remark → List ℕ
remark_line remark = string_bytes remark.place ++ codes ": " ++ string_bytes remark.words ++ codes "\n"

-- the lines for remarks, if there are some
abbrev pub shown_remarks : List Remark → Option (List ℕ)
shown_remarks [] = None
shown_remarks (remark ∷ later) = Some (flat_map remark_line (remark ∷ later))

-- The document's text is the input, or stands before the lines of a run.
abbrev pub IsDocumentIn : List ℕ → List ℕ → Type 0
IsDocumentIn input document = (input ≡ document) ⊎ ((lines : List ℕ) × (input ≡ document ++ mark ++ lines))

-- What is shown are the remarks of `lint` on the input's document, in lines.
pub record AreRemarksOn (input : List ℕ) (shown : Option (List ℕ)) : Type 0 where
  pub document : List ℕ
  pub found : List Remark
  pub is_document : IsDocumentIn input document
  pub are_right : AreRemarks (IsSoOf None document) found
  pub are_shown : shown ≡ shown_remarks found

-- how many nodes the certificate of each table of a document has
abbrev pub certificate_sizes : Doc → List ℕ
certificate_sizes D = map (λ t. length (nodes_at D t)) (below (length D.tables))

-- The text is a document, whose certificates have so many nodes.
abbrev pub AreSizesIn : List ℕ → List ℕ → Type 0
AreSizesIn text sizes = (D : Doc) × (doc_of text ≡ Ok D) × (sizes ≡ certificate_sizes D)

-- Each table of the document has a certificate, of so many nodes: a search found one of at most 1,000,000 nodes, or the document itself has it.
abbrev pub HasCertificates : Doc → List ℕ → Type 0
HasCertificates D sizes =
    ((text : List ℕ) × IsCertified D 1000000 text × AreSizesIn text sizes) ⊎ ((trees : List Tree) × AreAccepted D trees × (sizes ≡ certificate_sizes D))

-- The lines tell of places under table t what holds each train there, with the knot, and what is known of runs from the start to them.
pub record TellsPlaces (D : Doc) (names : List (Vec (String Global) Global)) (t : ℕ) (p lines : List ℕ) : Type 0 where
  pub words : List ℕ
  pub tells : Tells (names_of D) (sections_named names t) (table_at D t) p t words
  pub is_told : IsToldWithRun D t p words lines

-- The verdict says why there are no certificates: a state is stuck, of which lines tell, or the searches gave up.
abbrev pub SaysWhyNot : Doc → List (Vec (String Global) Global) → Uncertified → Verdict → Type 0
SaysWhyNot D names (StuckAt t p) (Stuck lines) = TellsPlaces D names t p (string_bytes lines)
SaysWhyNot D names (StuckAt t p) (Certified sizes) = ⊥
SaysWhyNot D names (StuckAt t p) (Undecided lines) = ⊥
SaysWhyNot D names (GaveUp t nodes) (Undecided lines) = string_bytes lines ≡ gave_up_words t nodes ++ codes "\n"
SaysWhyNot D names (GaveUp t nodes) (Certified sizes) = ⊥
SaysWhyNot D names (GaveUp t nodes) (Stuck lines) = ⊥
SaysWhyNot D names Memory verdict = ⊥

-- A search found no certificates for a document, and the verdict says why.
pub record IsUncertifiedVerdict (D : Doc) (names : List (Vec (String Global) Global)) (verdict : Verdict) : Type 0 where
  pub why : Uncertified
  pub has_none : HasNone D 1000000 why
  pub says : SaysWhyNot D names why verdict

-- What a page says of certificates.
abbrev pub IsVerdictOn : Doc → List (Vec (String Global) Global) → Verdict → Type 0
IsVerdictOn D names (Certified sizes) = HasCertificates D sizes.items
IsVerdictOn D names (Stuck lines) = IsUncertifiedVerdict D names (Stuck lines)
IsVerdictOn D names (Undecided lines) = IsUncertifiedVerdict D names (Undecided lines)

-- The layout has the trains where they are stuck, or else at the start, under table 0.
abbrev pub IsLayoutFor : Doc → List (Vec (String Global) Global) → Uncertified → List ℕ → Type 0
IsLayoutFor D names (StuckAt t p) layout = IsLayoutAt D names t p layout
IsLayoutFor D names (GaveUp t nodes) layout = IsLayoutAt D names 0 D.start layout
IsLayoutFor D names Memory layout = IsLayoutAt D names 0 D.start layout

-- the table of which a state is stuck, or table 0
abbrev pub stuck_table : Uncertified → ℕ
stuck_table (StuckAt t p) = t
stuck_table (GaveUp t nodes) = 0
stuck_table Memory = 0

-- What is shown has the names of a document, and the sections of its table t.
pub record IsAbout (D : Doc) (names : List (Vec (String Global) Global)) (t : ℕ) (shown : Report) : Type 0 where
  pub is_layout : shown.layout.now ≡ D.layout
  pub are_trains : shown.trains.now ≡ names_of D
  pub is_table : shown.table.now ≡ table_at D t
  pub are_sections : shown.sections.now ≡ sections_named names t

-- The text is the page of a run of a document, with this title, and by these names of sections: its layout has the trains at the start, under
-- table 0.
pub record IsReportOf (input : List ℕ) (D : Doc) (names : List (Vec (String Global) Global)) (title : List ℕ) (run : Run) (text : List ℕ) : Type 0 where
  pub shown : Report
  pub is_title : shown.title.now ≡ title
  pub is_verdict : IsVerdictOn D names shown.verdict.now
  pub is_layout : IsLayoutAt D names 0 D.start shown.tracks.now
  pub is_run : option_map (λ r. r.now) shown.run ≡ Some run
  pub are_waits : AreWaits D names run shown.waits.now
  pub is_graph : IsGraphOf D run shown.waits.now false shown.graph.now
  pub is_about : IsAbout D names 0 shown
  pub are_remarks : AreRemarksOn input (option_map (λ s. s.now) shown.remarks)
  pub is_page : IsPage shown text

-- The text is the page of the input's run, with a delay if one is named.
pub record IsRunReport (input : List ℕ) (delay : Option (Bor (List ℕ))) (names : List (Vec (String Global) Global)) (title text : List ℕ) : Type 0 where
  pub document : Doc
  pub run : Run
  pub is_run : IsRunOf input delay document run
  pub is_report : IsReportOf input document names title run text

-- The text is the page of a document for which no certificates were found, and so no run: it says why.
pub record IsOpenReportOf (input : List ℕ) (D : Doc) (names : List (Vec (String Global) Global)) (title : List ℕ) (why : Uncertified) (text : List ℕ) : Type 0 where
  pub shown : Report
  pub is_title : shown.title.now ≡ title
  pub is_verdict : SaysWhyNot D names why shown.verdict.now
  pub is_layout : IsLayoutFor D names why shown.tracks.now
  pub has_no_run : shown.run ≡ None
  pub is_about : IsAbout D names (stuck_table why) shown
  pub are_remarks : AreRemarksOn input (option_map (λ s. s.now) shown.remarks)
  pub is_page : IsPage shown text

-- The input is a document for which no certificates were found, and the text is its page.
pub record IsOpenReport (input : List ℕ) (names : List (Vec (String Global) Global)) (title text : List ℕ) : Type 0 where
  pub document : Doc
  pub why : Uncertified
  pub is_read : doc_of input ≡ Ok document
  pub has_none : HasNone document 1000000 why
  pub is_report : IsOpenReportOf input document names title why text

-- The text is the page of the input: of its run; or of a document without certificates.
abbrev pub IsReportText : List ℕ → Option (Bor (List ℕ)) → List (Vec (String Global) Global) → List ℕ → List ℕ → Type 0
IsReportText input delay names title text = IsRunReport input delay names title text ⊎ IsOpenReport input names title text
