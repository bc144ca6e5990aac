-- What each command is called, and what it has of the values of its options.
use Rattle.std.specs.Borrow.{Bor}
use Rattle.std.specs.Prelude.{◌≡◌, ℕ, Bool, true, false, List, bytes_eq, codes, Option, Some, None, option_map, unwrap_or, IsSomeAnd}
use Rattle.clap.specs.Words.{Row, Text, first_of, one_of, subcommand_of}
use Rattle.planner_words.specs.declared.orders.Effort.{Effort}
use Rattle.planner_words.specs.declared.orders.Effort.TheVariants.{Small, Usual, Great}
use Rattle.planner_words.specs.declared.orders.Output.{Output}
use Rattle.planner_words.specs.declared.orders.Output.TheVariants.{Document as OfDocument, Plan as OfPlan, Entries as OfEntries}
use Rattle.ats_words.specs.Options as options
use Rattle.decimal_number.specs.Decimal.{number_of}
use Rattle.planner_words.specs.Line.{planner}
use Rattle.planner_words.specs.declared.orders.Order.{Order}
use Rattle.planner_words.specs.declared.orders.Order.TheVariants.{Plan, ExplainState, ExplainLine, Lint, Certify, Protect, AddOrders, OrderByRun, Timetable, Graph, Report, CompareWith, CompareDelayed, Layout}

-- the word that asks for an order
abbrev pub name_of : Order → List ℕ
name_of Plan = codes "plan"
name_of (ExplainState table at run plan) = codes "explain"
name_of (ExplainLine line plan) = codes "explain"
name_of (Lint before plan) = codes "lint"
name_of (Certify budget effort) = codes "certify"
name_of (Protect budget effort rounds output) = codes "protect"
name_of (AddOrders output) = codes "order"
name_of (OrderByRun seed journal output) = codes "order"
name_of (Timetable csv journal delay) = codes "timetable"
name_of (Graph train journal blocks delay) = codes "graph"
name_of (Report title journal delay) = codes "report"
name_of (CompareWith csv other) = codes "compare"
name_of (CompareDelayed csv delay) = codes "compare"
name_of (Layout table at plan) = codes "layout"

-- the table that is named, or the first one
abbrev pub table_in : List Row → Text
table_in given = unwrap_or (first_of (codes "table") given) (codes "0")

-- the title that is named, or this one
abbrev pub title_in : List Row → Text
title_in given = unwrap_or (first_of (codes "title") given) (codes "Report")

-- the number of nodes that is named, if it is one from 1 to 1000000, or the greatest one
abbrev pub budget_in : List Row → Option ℕ
budget_in given = options.number options.budget given

-- how many nodes a certificate that `protect` looks for has at most
abbrev pub nodes : options.NumberOption
nodes = options.option (codes "budget") 1 1000000 50000

-- the same, as it is named for `protect`
abbrev pub nodes_in : List Row → Option ℕ
nodes_in given = options.number nodes given

-- how many sections `protect` makes for a table at most
abbrev pub rounds : options.NumberOption
rounds = options.option (codes "rounds") 0 1000 100

-- the number of them that is named
abbrev pub rounds_in : List Row → Option ℕ
rounds_in given = options.number rounds given

-- the word for an effort
abbrev pub word_of : Effort → Text
word_of Small = codes "small"
word_of Usual = codes "usual"
word_of Great = codes "great"

-- The word is the one for the effort; without a word the effort is the usual one.
abbrev pub IsEffort : Option Text → Effort → Type 0
IsEffort (Some word) effort = word ≡ word_of effort
IsEffort None effort = effort ≡ Usual

-- The flag is up where clap has "true" for it, and down where it has "false".
abbrev pub IsFlag : Option Text → Bool → Type 0
IsFlag found flag = (found ≡ Some (codes "true") → flag ≡ true) × (found ≡ Some (codes "false") → flag ≡ false)

-- whether a flag is up: clap has "true" for it
abbrev pub is_true : Option Text → Bool
is_true None = false
is_true (Some word) = bytes_eq word (codes "true")

-- whether a flag of this name is up
abbrev pub is_up : Text → List Row → Bool
is_up flag given = is_true (first_of flag given)

-- whether the plan is to be written
abbrev pub is_plan : Output → Bool
is_plan OfDocument = false
is_plan OfPlan = true
is_plan OfEntries = false

-- whether entries alone are to be written
abbrev pub is_entries : Output → Bool
is_entries OfDocument = false
is_entries OfPlan = false
is_entries OfEntries = true

-- What is written of added sections is what the flags say: `into` asks for the plan, `entries` for entries alone, and none of them for the
-- document.
abbrev pub IsOutput : List Row → Output → Type 0
IsOutput given output = (is_plan output ≡ is_up (codes "into") given) × (is_entries output ≡ is_up (codes "entries") given)

-- The file is the one that is named for an option, and there is none where none is named.
abbrev pub IsFile : Option Text → Option (Bor Text) → Type 0
IsFile found file = option_map (λ s. s.now) file ≡ found

-- The delay is the one that is named, and there is none where none is named.
abbrev pub IsDelay : List Row → Option (Bor Text) → Type 0
IsDelay given delay = option_map (λ s. s.now) delay ≡ first_of (codes "delay") given

-- The order has the values that clap found for the options of its command.
abbrev pub HasValues : List Row → Order → Type 0
HasValues given Plan = Unit {0}
HasValues given (ExplainState table at run plan) =
    (table.now ≡ table_in given) × (Some at.now ≡ first_of (codes "at") given) × IsFlag (one_of (codes "run") given) run × IsFile (first_of (codes "plan") given) plan
HasValues given (ExplainLine line plan) =
    (None ≡ first_of (codes "at") given) × (Some line.now ≡ first_of (codes "line") given) × IsFile (first_of (codes "plan") given) plan
HasValues given (Lint before plan) = IsFile (first_of (codes "before") given) before × IsFile (first_of (codes "plan") given) plan
HasValues given (Protect budget effort made output) =
    (nodes_in given ≡ Some budget) × (rounds_in given ≡ Some made) × IsEffort (first_of (codes "effort") given) effort × IsOutput given output
HasValues given (AddOrders output) =
    (None ≡ first_of (codes "of-run") given) × (None ≡ first_of (codes "journal") given) × IsOutput given output
HasValues given (OrderByRun seed journal output) =
    IsSomeAnd (first_of (codes "of-run") given) (λ word. number_of word ≡ Some seed) × IsFile (first_of (codes "journal") given) journal × IsOutput given output
HasValues given (Certify budget effort) = (budget_in given ≡ Some budget) × IsEffort (first_of (codes "effort") given) effort
HasValues given (Timetable csv journal delay) =
    IsFlag (one_of (codes "csv") given) csv × IsFile (first_of (codes "journal") given) journal × IsDelay given delay
HasValues given (Graph train journal blocks delay) =
    (option_map (λ s. s.now) train ≡ first_of (codes "train") given) × IsFile (first_of (codes "journal") given) journal
    × IsFlag (one_of (codes "blocks") given) blocks × IsDelay given delay
HasValues given (Report title journal delay) = (title.now ≡ title_in given) × IsFile (first_of (codes "journal") given) journal × IsDelay given delay
HasValues given (CompareWith csv other) = IsFlag (one_of (codes "csv") given) csv × (Some other.now ≡ first_of (codes "with") given)
HasValues given (CompareDelayed csv delay) =
    IsFlag (one_of (codes "csv") given) csv × (None ≡ first_of (codes "with") given) × (Some delay.now ≡ first_of (codes "delay") given)
HasValues given (Layout table at plan) =
    (table.now ≡ table_in given) × (option_map (λ s. s.now) at ≡ first_of (codes "at") given) × IsFile (first_of (codes "plan") given) plan

-- The subcommand of this name, with what was found for its options, asks for the order.
abbrev pub AsksFor : Order → Text × List Row → Type 0
AsksFor order called = (name_of order ≡ called.0) × HasValues called.1 order

-- The words ask for the order, as clap reads them.
abbrev pub IsAsked : List Text → Order → Type 0
IsAsked words order = IsSomeAnd (subcommand_of planner words) (AsksFor order)
