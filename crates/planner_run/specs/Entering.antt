-- What is written of the sections that an order adds.
use Rattle.std.specs.Prelude.{◌≡◌, ℕ, Bool, true, false, IsTrue, List}
use Rattle.plan_sections.specs.Entered.{IsEntered}
use Rattle.planner_words.specs.declared.orders.Order.{Order}
use Rattle.planner_words.specs.declared.orders.Order.TheVariants.{Plan as OfPlan, ExplainState, ExplainLine, Lint, Certify, Protect, AddOrders, OrderByRun, Timetable, Graph, Report, CompareWith, CompareDelayed, Layout}
use Rattle.planner_words.specs.declared.orders.Output.{Output}
use Rattle.planner_words.specs.declared.orders.Output.TheVariants.{Document, Plan, Entries}
use Rattle.planner_run.specs.declared.entering.Given.{Given}
use Rattle.planner_run.specs.declared.entering.Given.TheVariants.{Text, Not}

-- what an order asks for: the document, unless it adds sections and asks for a plan or for entries
abbrev pub output_of : Order → Output
output_of OfPlan = Document
output_of (ExplainState table at run file) = Document
output_of (ExplainLine line file) = Document
output_of (Lint before file) = Document
output_of (Certify budget effort) = Document
output_of (Protect budget effort rounds output) = output
output_of (AddOrders output) = output
output_of (OrderByRun seed journal output) = output
output_of (Timetable csv journal delay) = Document
output_of (Graph train journal blocks delay) = Document
output_of (Report title journal delay) = Document
output_of (CompareWith csv file) = Document
output_of (CompareDelayed csv delay) = Document
output_of (Layout table at file) = Document

-- whether entries are to be written, with the plan or alone
abbrev pub has_entries : Output → Bool
has_entries Document = false
has_entries Plan = true
has_entries Entries = true

-- The order asks for entries.
abbrev pub AsksForEntries : Order → Type 0
AsksForEntries order = IsTrue (has_entries (output_of order))

-- The text is what is to be written of what was made of an input: that itself; the plan of the input with entries; or these alone.
abbrev pub IsPut : Output → List ℕ → List ℕ → List ℕ → Type 0
IsPut Document input made text = text ≡ made
IsPut Plan input made text = (entries : List ℕ) × IsEntered input made text entries
IsPut Entries input made entries = (text : List ℕ) × IsEntered input made text entries

-- What was made of an input is written as the order asks, or lines say that it has no entries.
abbrev pub IsPutFor : Order → List ℕ → List ℕ → Given → Type 0
IsPutFor order input made (Text text) = IsPut (output_of order) input made text.items
IsPutFor order input made (Not lines) = AsksForEntries order
