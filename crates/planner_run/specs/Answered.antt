-- What the answers to orders are.
use Rattle.std.specs.Prelude.{◌≡◌, ◌≢◌, ◌⊎◌, ℕ, Bool, true, false, List, [], Ok, Option, Some, None, String, Vec, IfSome, IsTrue, string_bytes}
use Rattle.std.specs.declared.alloc.Global.{Global}
use Rattle.ats_io.specs.Bytes.{AddsPrefix}
use Rattle.decimal_number.specs.Decimal.{number_of}
use Rattle.run_orders.specs.RunOrdered.{IsInputByRun}
use Rattle.refusal_lines.specs.Makers.{places_words}
use Rattle.document_json.specs.Reading.{doc_of}
use Rattle.document_json.specs.Doc.{Doc, names_of}
use Rattle.plan_document.specs.declared.plan.Plan.{Plan}
use Rattle.plan_crossed.specs.Read.{IsCrossedRead}
use Rattle.plan_reading.specs.declared.reading.PlanRead.TheVariants.{Plan as AsPlan}
use Rattle.plan_input.specs.Standing.{AreFaultsOf, begins_as_document, IsPlanned, IsStandingAs, ReadsAsDocument, Stands}
use Rattle.plan_input.specs.declared.origin.PlanFile.{PlanFile}
use Rattle.plan_input.specs.declared.standing.Standing.{Standing}
use Rattle.plan_suspects.specs.Suspects.{has_suspects}
use Rattle.run_timetable.specs.declared.run.Run.{Run}
use Rattle.run_timetable.specs.Csv.{csv_text}
use Rattle.document_lint.specs.Told.{AreRemarks, IsSoOf}
use Rattle.document_facts.specs.declared.fact.Fact.{Fact}
use Rattle.document_lint.specs.declared.remark.Remark.{Remark}
use Rattle.planner_words.specs.declared.orders.Order.{Order}
use Rattle.planner_words.specs.declared.orders.Order.TheVariants.{Plan as OfPlan, ExplainState, ExplainLine, Lint, Certify, Protect, AddOrders, OrderByRun, Timetable, Graph, Report, CompareWith, CompareDelayed, Layout}
use Rattle.ats_words.specs.declared.answering.WordsAnswered.{WordsAnswered}
use Rattle.ats_words.specs.declared.answering.WordsAnswered.TheVariants.{Shown, Refused, Memory}
use Rattle.planner_run.specs.Certifying.{IsCertifiedInput, IsCertifyingFault}
use Rattle.planner_run.specs.Comparing.{IsComparison, IsComparisonWith}
use Rattle.planner_run.specs.Drawn.{IsGraphWithWaits, IsLayoutAt}
use Rattle.planner_run.specs.Explaining.{ExplainsPlaces, ExplainsWords}
use Rattle.planner_run.specs.Entering.{AsksForEntries, IsPut, output_of}
use Rattle.planner_run.specs.Ordering.{IsOrderedInput}
use Rattle.planner_run.specs.Protecting.{IsProtectedInput, IsProtectingFault}
use Rattle.planner_run.specs.Reporting.{IsReportText}
use Rattle.planner_run.specs.Running.{IsRunOf}
use Rattle.planner_run.specs.declared.answer.Answer.{Answer}
use Rattle.planner_run.specs.declared.answer.Answer.TheVariants.{Text, Remarks, Noted, Wrong}
use Rattle.planner_run.specs.declared.top.Status.{Status}
use Rattle.planner_run.specs.declared.top.Status.TheVariants.{Done, Faulty, Failed}
use denote.Ref.{Bor}

-- The text is the graph of the input's run, with a delay if one is named, by these names of sections, and with bars where points are taken if
-- this is asked for.
pub record IsGraphText (input : List ℕ) (names : List (Vec (String Global) Global)) (delay : Option (Bor (List ℕ))) (blocks : Bool) (text : List ℕ) : Type 0 where
  pub document : Doc
  pub run : Run
  pub is_run : IsRunOf input delay document run
  pub is_graph : IsGraphWithWaits document names run blocks text

-- The text is the timetable of a run of a document: as comma-separated values, exactly these. Of columns nothing is said.
abbrev pub IsTimetableOf : Doc → Run → Bool → List ℕ → Type 0
IsTimetableOf D run true text = text ≡ csv_text D.layout (names_of D) run
IsTimetableOf D run false text = Unit {0}

-- The text is the timetable of the input's run, with a delay if one is named.
pub record IsTimetableText (input : List ℕ) (delay : Option (Bor (List ℕ))) (is_csv : Bool) (text : List ℕ) : Type 0 where
  pub document : Doc
  pub run : Run
  pub is_run : IsRunOf input delay document run
  pub is_timetable : IsTimetableOf document run is_csv text

-- The places are those that the words name; without words, those at the start.
abbrev pub AreAsked : Doc → Option (Bor (List ℕ)) → List ℕ → Type 0
AreAsked D (Some words) places = words.now ≡ places_words places
AreAsked D None places = places ≡ D.start

-- The text is such a picture with the trains at the places asked for.
pub record IsLayoutOf (D : Doc) (names : List (Vec (String Global) Global)) (t : ℕ) (asked : Option (Bor (List ℕ))) (text : List ℕ) : Type 0 where
  pub places : List ℕ
  pub are_asked : AreAsked D asked places
  pub is_layout : IsLayoutAt D names t places text

-- The input is a document, and the text is a picture of its layout under the table that the words name, by these names of sections.
pub record IsLayoutText (input : List ℕ) (names : List (Vec (String Global) Global)) (table_words : List ℕ) (asked : Option (Bor (List ℕ))) (text : List ℕ) : Type 0 where
  pub document : Doc
  pub table : ℕ
  pub is_read : doc_of input ≡ Ok document
  pub is_table : number_of table_words ≡ Some table
  pub is_layout : IsLayoutOf document names table asked text

-- No fact is so that a remark tells: the input is a document without one, and no section of the former document is gone.
abbrev pub NeedsNoRemark : Option (Bor (List ℕ)) → List ℕ → Type 0
NeedsNoRemark former input = ReadsAsDocument input × ((f : Fact) → IsSoOf former input f → ⊥)

-- There are no remarks on the input: the text has nothing.
abbrev pub HasNoRemarks : Option (Bor (List ℕ)) → List ℕ → List ℕ → Type 0
HasNoRemarks former input text = (text ≡ []) × NeedsNoRemark former input

-- The order works on this text, with these names of sections, if its input is that, with a plan in a file beside it or without: `plan` on
-- the input itself, any other on the document that stands for it.
abbrev pub WorksOn : Order → Option (Bor PlanFile) → List ℕ → List ℕ → List (Vec (String Global) Global) → Type 0
WorksOn OfPlan plan input text names = (text ≡ input) × (names ≡ [])
WorksOn (ExplainState table at run file) plan input text names = Stands plan input text names
WorksOn (ExplainLine line file) plan input text names = Stands plan input text names
WorksOn (Lint before file) plan input text names = Stands plan input text names
WorksOn (Certify budget effort) plan input text names = Stands plan input text names
WorksOn (Protect budget effort rounds output) plan input text names = Stands plan input text names
WorksOn (AddOrders output) plan input text names = Stands plan input text names
WorksOn (OrderByRun seed journal output) plan input text names = Stands plan input text names
WorksOn (Timetable csv journal delay) plan input text names = Stands plan input text names
WorksOn (Graph train journal blocks delay) plan input text names = Stands plan input text names
WorksOn (Report title journal delay) plan input text names = Stands plan input text names
WorksOn (CompareWith csv file) plan input text names = Stands plan input text names
WorksOn (CompareDelayed csv delay) plan input text names = Stands plan input text names
WorksOn (Layout table at file) plan input text names = Stands plan input text names

-- The order works on this; or these lines say what is wrong with its input, or with the plan beside it.
abbrev pub IsWorkedOn : Order → Option (Bor PlanFile) → List ℕ → Standing → Type 0
IsWorkedOn order plan input standing = IsStandingAs (WorksOn order plan input) (AreFaultsOf plan input) input standing

-- This holds of the bytes of a file, which there are.
abbrev pub IfThere : Option (Bor (List ℕ)) → (List ℕ → Type 0) → Type 0
IfThere None Holds = ⊥
IfThere (Some file) Holds = Holds file.now

-- The text is what an order comes to on a document, with a former one for remarks, and with names of sections for explanations.
abbrev pub IsTextFor : Order → Option (Bor (List ℕ)) → List ℕ → List (Vec (String Global) Global) → List ℕ → Type 0
IsTextFor OfPlan former input names text = IsPlanned input text
IsTextFor (ExplainState table at run file) former input names text = ExplainsPlaces input names table.now at.now run text
IsTextFor (ExplainLine line file) former input names text = ExplainsWords input names line.now text
IsTextFor (Lint before file) former input names text = HasNoRemarks former input text
IsTextFor (Certify budget effort) former input names text = IsCertifiedInput input budget text
IsTextFor (Protect budget effort rounds output) former input names text = IsProtectedInput input text
IsTextFor (AddOrders output) former input names text = IsOrderedInput input text
IsTextFor (OrderByRun seed journal output) former input names text = IsInputByRun input text
IsTextFor (Timetable csv journal delay) former input names text = IsTimetableText input delay csv text
IsTextFor (Graph train journal blocks delay) former input names text = IsGraphText input names delay blocks text
IsTextFor (Report title journal delay) former input names text = IsReportText input delay names title.now text
IsTextFor (CompareWith csv file) former input names text = IfThere former (λ other. IsComparisonWith input other csv text)
IsTextFor (CompareDelayed csv delay) former input names text = IsComparison input input (Some delay) csv text
IsTextFor (Layout table at file) former input names text = IsLayoutText input names table.now at text

-- The text is what an order comes to on an input, with a plan beside it or without: on what it works on.
pub record IsTextOn (order : Order) (former : Option (Bor (List ℕ))) (plan : Option (Bor PlanFile)) (input text : List ℕ) : Type 0 where
  pub document : List ℕ
  pub names : List (Vec (String Global) Global)
  pub works : WorksOn order plan input document names
  pub is_text : IsTextFor order former document names text

-- The text is written of an input: that which an order comes to, or what it asks for in its place.
pub record IsWrittenOn (order : Order) (former : Option (Bor (List ℕ))) (plan : Option (Bor PlanFile)) (input text : List ℕ) : Type 0 where
  pub made : List ℕ
  pub is_made : IsTextOn order former plan input made
  pub is_put : IsPut (output_of order) input made text

-- The lines are what is wrong with a document for an order. Only of those of `certify` and `protect` anything is said.
abbrev pub AreWrongFor : Order → List ℕ → List ℕ → Type 0
AreWrongFor (Certify budget effort) input lines = IsCertifyingFault input budget lines
AreWrongFor (Protect budget effort rounds output) input lines = IsProtectingFault input lines
AreWrongFor OfPlan input lines = Unit {0}
AreWrongFor (ExplainState table at run file) input lines = Unit {0}
AreWrongFor (ExplainLine line file) input lines = Unit {0}
AreWrongFor (Lint before file) input lines = Unit {0}
AreWrongFor (AddOrders output) input lines = Unit {0}
AreWrongFor (OrderByRun seed journal output) input lines = Unit {0}
AreWrongFor (Timetable csv journal delay) input lines = Unit {0}
AreWrongFor (Graph train journal blocks delay) input lines = Unit {0}
AreWrongFor (Report title journal delay) input lines = Unit {0}
AreWrongFor (CompareWith csv file) input lines = Unit {0}
AreWrongFor (CompareDelayed csv delay) input lines = Unit {0}
AreWrongFor (Layout table at file) input lines = Unit {0}

-- The lines are what is wrong with what an order works on.
pub record AreWrongThere (order : Order) (plan : Option (Bor PlanFile)) (input lines : List ℕ) : Type 0 where
  pub document : List ℕ
  pub names : List (Vec (String Global) Global)
  pub works : WorksOn order plan input document names
  pub are_wrong : AreWrongFor order document lines

-- The lines are what is wrong with an input for an order: with what it works on; or the mistakes of a plan, or that an input isn't of the
-- plan beside it.
abbrev pub AreWrongOn : Order → Option (Bor PlanFile) → List ℕ → List ℕ → Type 0
AreWrongOn order plan input lines = AreFaultsOf plan input lines ⊎ AreWrongThere order plan input lines

-- An order that asks for entries gets none: its input begins as a document does; or what it comes to isn't written as entries, of which
-- nothing is said.
pub record HasNoEntries (order : Order) (former : Option (Bor (List ℕ))) (plan : Option (Bor PlanFile)) (input : List ℕ) : Type 0 where
  pub asks : AsksForEntries order
  pub cause : (begins_as_document input ≡ true) ⊎ ((made : List ℕ) × IsTextOn order former plan input made)

-- The lines say why an order gets no text: what is wrong with its input; or that there are no entries for it.
abbrev pub SayWhyNone : Order → Option (Bor (List ℕ)) → Option (Bor PlanFile) → List ℕ → List ℕ → Type 0
SayWhyNone order former plan input lines = AreWrongOn order plan input lines ⊎ HasNoEntries order former plan input

-- What a sink took is the beginning of lines that say why an order gets no text.
pub record Tells (order : Order) (former : Option (Bor (List ℕ))) (plan : Option (Bor PlanFile)) (input : List ℕ) (old new : Option (List ℕ)) : Type 0 where
  pub lines : List ℕ
  pub are_wrong : SayWhyNone order former plan input lines
  pub are_told : AddsPrefix old new lines

-- The order asks for remarks.
abbrev pub AsksForRemarks : Order → Type 0
AsksForRemarks (Lint before file) = Unit {0}
AsksForRemarks OfPlan = ⊥
AsksForRemarks (ExplainState table at run file) = ⊥
AsksForRemarks (ExplainLine line file) = ⊥
AsksForRemarks (Certify budget effort) = ⊥
AsksForRemarks (Protect budget effort rounds output) = ⊥
AsksForRemarks (AddOrders output) = ⊥
AsksForRemarks (OrderByRun seed journal output) = ⊥
AsksForRemarks (Timetable csv journal delay) = ⊥
AsksForRemarks (Graph train journal blocks delay) = ⊥
AsksForRemarks (Report title journal delay) = ⊥
AsksForRemarks (CompareWith csv file) = ⊥
AsksForRemarks (CompareDelayed csv delay) = ⊥
AsksForRemarks (Layout table at file) = ⊥

-- The input is a plan, and a point of it is probably mistyped.
pub record IsSuspected (input : List ℕ) : Type 0 where
  pub plan : Plan
  pub is_plan : IsCrossedRead input (AsPlan plan)
  pub is_suspected : IsTrue (has_suspects plan)

-- The text that an order asks for has notes: those that add sections always; that of a plan only if a point of the plan that was read is
-- probably mistyped, or if it isn't known what was read.
abbrev pub HasNotes : Order → Option (List ℕ) → Type 0
HasNotes OfPlan read = IfSome read IsSuspected
HasNotes (Protect budget effort rounds output) read = Unit {0}
HasNotes (AddOrders output) read = Unit {0}
HasNotes (OrderByRun seed journal output) read = Unit {0}
HasNotes (ExplainState table at run file) read = ⊥
HasNotes (ExplainLine line file) read = ⊥
HasNotes (Lint before file) read = ⊥
HasNotes (Certify budget effort) read = ⊥
HasNotes (Timetable csv journal delay) read = ⊥
HasNotes (Graph train journal blocks delay) read = ⊥
HasNotes (Report title journal delay) read = ⊥
HasNotes (CompareWith csv file) read = ⊥
HasNotes (CompareDelayed csv delay) read = ⊥
HasNotes (Layout table at file) read = ⊥

-- The answer has no remarks and no notes, and where it is a text, this holds of it.
abbrev pub IfText : (List ℕ → Type 0) → Answer → Type 0
IfText Holds (Text text) = Holds text.items
IfText Holds (Remarks lines) = ⊥
IfText Holds (Noted text lines) = ⊥
IfText Holds (Wrong lines) = Unit {0}

-- The answer says with these lines what is wrong.
abbrev pub IsWrong : List ℕ → Answer → Type 0
IsWrong words (Text text) = ⊥
IsWrong words (Remarks lines) = ⊥
IsWrong words (Noted text lines) = ⊥
IsWrong words (Wrong lines) = string_bytes lines ≡ words

-- The answer says what is wrong, with lines of which this holds.
abbrev pub SaysWrong : (List ℕ → Type 0) → Answer → Type 0
SaysWrong Holds (Text text) = ⊥
SaysWrong Holds (Remarks lines) = ⊥
SaysWrong Holds (Noted text lines) = ⊥
SaysWrong Holds (Wrong lines) = Holds (string_bytes lines)

-- The answer is what an order comes to on a document, with remarks only where it asks for them and notes only where it has them, or what is
-- wrong with the document.
abbrev pub IsAnswerFor : Order → Option (Bor (List ℕ)) → List ℕ → List (Vec (String Global) Global) → Answer → Type 0
IsAnswerFor order former document names (Text text) = IsTextFor order former document names text.items
IsAnswerFor order former document names (Remarks lines) = AsksForRemarks order
IsAnswerFor order former document names (Noted text lines) = HasNotes order (Some document) × IsTextFor order former document names text.items
IsAnswerFor order former document names (Wrong lines) = AreWrongFor order document (string_bytes lines)

-- The same of an input, which is a document or a plan, with a plan beside it or without.
abbrev pub IsMadeFor : Order → Option (Bor (List ℕ)) → Option (Bor PlanFile) → List ℕ → Answer → Type 0
IsMadeFor order former plan input (Text text) = IsTextOn order former plan input text.items
IsMadeFor order former plan input (Remarks lines) = AsksForRemarks order
IsMadeFor order former plan input (Noted text lines) = HasNotes order (Some input) × IsTextOn order former plan input text.items
IsMadeFor order former plan input (Wrong lines) = AreWrongOn order plan input (string_bytes lines)

-- The answer is what is written of an input, with remarks and notes as before, or why nothing is.
abbrev pub IsAnswerTo : Order → Option (Bor (List ℕ)) → Option (Bor PlanFile) → List ℕ → Answer → Type 0
IsAnswerTo order former plan input (Text text) = IsWrittenOn order former plan input text.items
IsAnswerTo order former plan input (Remarks lines) = AsksForRemarks order
IsAnswerTo order former plan input (Noted text lines) = HasNotes order (Some input) × IsWrittenOn order former plan input text.items
IsAnswerTo order former plan input (Wrong lines) = SayWhyNone order former plan input (string_bytes lines)

-- The answer is the document of a plan, with notes only if a point of the plan is probably mistyped, or what is wrong.
abbrev pub IsPlanning : List ℕ → Answer → Type 0
IsPlanning input (Text text) = IsPlanned input text.items
IsPlanning input (Remarks lines) = ⊥
IsPlanning input (Noted text lines) = IsSuspected input × IsPlanned input text.items
IsPlanning input (Wrong lines) = Unit {0}

-- The answer is the document with certificates, or the line that says why it has none.
abbrev pub IsCertifying : List ℕ → ℕ → Answer → Type 0
IsCertifying input budget (Text text) = IsCertifiedInput input budget text.items
IsCertifying input budget (Remarks lines) = ⊥
IsCertifying input budget (Noted text lines) = ⊥
IsCertifying input budget (Wrong lines) = IsCertifyingFault input budget (string_bytes lines)

-- The answer is the document with guards and certificates, and notes on them, or the lines that say why it has none.
abbrev pub IsProtecting : List ℕ → Answer → Type 0
IsProtecting input (Text text) = ⊥
IsProtecting input (Remarks lines) = ⊥
IsProtecting input (Noted text lines) = IsProtectedInput input text.items
IsProtecting input (Wrong lines) = IsProtectingFault input (string_bytes lines)

-- The answer is the document with orders and notes on them, or what is wrong.
abbrev pub IsOrdering : List ℕ → Answer → Type 0
IsOrdering input (Text text) = ⊥
IsOrdering input (Remarks lines) = ⊥
IsOrdering input (Noted text lines) = IsOrderedInput input text.items
IsOrdering input (Wrong lines) = Unit {0}

-- The answer is the document with the orders of a run and notes on them, or what is wrong.
abbrev pub IsOrderingByRun : List ℕ → Answer → Type 0
IsOrderingByRun input (Text text) = ⊥
IsOrderingByRun input (Remarks lines) = ⊥
IsOrderingByRun input (Noted text lines) = IsInputByRun input text.items
IsOrderingByRun input (Wrong lines) = Unit {0}

-- Some remarks are right for the input, and tell all that is so of it.
pub record IsRemarked (former : Option (Bor (List ℕ))) (input : List ℕ) : Type 0 where
  pub remarks : List Remark
  pub are_right : AreRemarks (IsSoOf former input) remarks
  pub some : remarks ≢ []

-- The answer is remarks that are right and all there are, or an empty text where there are none.
abbrev pub IsLinted : Option (Bor (List ℕ)) → List ℕ → Answer → Type 0
IsLinted former input (Text text) = HasNoRemarks former input text.items
IsLinted former input (Remarks lines) = IsRemarked former input
IsLinted former input (Noted text lines) = ⊥
IsLinted former input (Wrong lines) = ⊥

-- the text that words get that ask for help or for the version
abbrev pub shown_text : WordsAnswered → Option (List ℕ)
shown_text (Shown text) = Some (string_bytes text)
shown_text (Refused text) = None
shown_text Memory = None

-- the exit code of a status
abbrev pub code_of : Status → ℕ
code_of Done = 0
code_of Faulty = 1
code_of Failed = 2
