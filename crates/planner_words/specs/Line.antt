-- The command as clap takes it: its subcommands and their options.
use Rattle.std.specs.Prelude.{List, [], ◌∷◌, codes, map, true, false, Some}
use Rattle.clap.specs.Words.{App, Rule, Shape, Text, new_app}
use Rattle.clap.specs.declared.builder.action.ArgAction.TheVariants.{Set, SetTrue}
use Rattle.ats_words.specs.Built.{leaf, long_option, with_all}
use Rattle.planner_words.specs.declared.asking.Choice.{Choice}
use Rattle.planner_words.specs.declared.asking.Subcommand.{Subcommand}
use Rattle.planner_words.specs.declared.asking.Choice.TheVariants.{Flag, ExcludingFlag, Value, Excluding}

-- an option with one value
abbrev pub valued : Text → Rule
valued name = record (long_option name) { action = Some Set; value_names = 1 }

-- the same, which can't go with some other one
abbrev pub excluding : Text → Rule
excluding name = record (valued name) { is_free = false }

-- an option with no value
abbrev pub flag : Text → Rule
flag name = record (long_option name) { action = Some SetTrue }

-- the same, which can't go with some other one
abbrev pub excluding_flag : Text → Rule
excluding_flag name = record (flag name) { is_free = false }

-- what clap takes an option for
abbrev pub rule_for : Choice → Rule
rule_for (Flag name help) = flag name.now
rule_for (ExcludingFlag name help without) = excluding_flag name.now
rule_for (Value name value help) = valued name.now
rule_for (Excluding name value help without) = excluding name.now

-- what clap takes a subcommand for
abbrev pub shape_of : Subcommand → Shape
shape_of subcommand = leaf subcommand.name.now (map rule_for subcommand.choices.now)

-- the command before any subcommand
abbrev pub start : App
start =
    let app = new_app (codes "planner") in
    record app { top = record app.top { no_binary_name = true; subcommand_required = true; disable_help_subcommand = true; has_version = true } }

-- the subcommands
abbrev pub plan : Shape
plan = leaf (codes "plan") []

abbrev pub explain : Shape
explain = leaf (codes "explain") (excluding (codes "at") ∷ valued (codes "table") ∷ excluding_flag (codes "run") ∷ excluding (codes "line") ∷ valued (codes "plan") ∷ [])

abbrev pub lint : Shape
lint = leaf (codes "lint") (valued (codes "before") ∷ valued (codes "plan") ∷ [])

abbrev pub certify : Shape
certify = leaf (codes "certify") (valued (codes "budget") ∷ valued (codes "effort") ∷ [])

abbrev pub protect : Shape
protect = leaf (codes "protect") (valued (codes "budget") ∷ valued (codes "effort") ∷ valued (codes "rounds") ∷ flag (codes "into") ∷ flag (codes "entries") ∷ [])

abbrev pub timetable : Shape
timetable = leaf (codes "timetable") (flag (codes "csv") ∷ valued (codes "journal") ∷ valued (codes "delay") ∷ [])

abbrev pub graph : Shape
graph = leaf (codes "graph") (valued (codes "train") ∷ valued (codes "journal") ∷ flag (codes "blocks") ∷ valued (codes "delay") ∷ [])

abbrev pub report : Shape
report = leaf (codes "report") (valued (codes "title") ∷ valued (codes "journal") ∷ valued (codes "delay") ∷ [])

abbrev pub compare : Shape
compare = leaf (codes "compare") (flag (codes "csv") ∷ excluding (codes "with") ∷ excluding (codes "delay") ∷ [])

abbrev pub layout : Shape
layout = leaf (codes "layout") (valued (codes "at") ∷ valued (codes "table") ∷ valued (codes "plan") ∷ [])

-- those that make or read a document alone
abbrev pub documents : List Shape
documents = plan ∷ explain ∷ lint ∷ []

abbrev pub order : Shape
order = leaf (codes "order") (valued (codes "of-run") ∷ valued (codes "journal") ∷ flag (codes "into") ∷ flag (codes "entries") ∷ [])

-- those that make something of a document
abbrev pub makers : List Shape
makers = certify ∷ protect ∷ order ∷ []

-- those that read a run, or draw
abbrev pub pictures : List Shape
pictures = timetable ∷ graph ∷ report ∷ compare ∷ layout ∷ []

-- the whole command
abbrev pub planner : App
planner = with_all pictures (with_all makers (with_all documents start))
