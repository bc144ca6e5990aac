-- Rows of the definitions, computed: command lines, and what clap finds in them.
use Rattle.std.proofs.Common.{◌≡◌, ℕ, Bool, List, Option, [], ◌∷◌, codes, map, true, false, Some, None, refl}
use Rattle.std.specs.Prelude.{◌==◌, option_map}
use Rattle.std.specs.List.{slice_split}
use Rattle.clap.specs.Words.{Text, first_of, subcommand_of, takes}
use Rattle.clap.proofs.OnLiterals.{clap_on_literals}
use Rattle.ats_words.specs.Built.{leaf}
use Rattle.decimal_number.specs.Decimal.{number_of}
use Rattle.planner_words.specs.Line.{planner}
use Rattle.planner_words.specs.Named.{budget_in, is_up, nodes_in, rounds_in, table_in, title_in}

-- the words of a line, which single spaces part
abbrev words_of : Text → List Text
words_of line = slice_split (λ b. b == 32) line

the_train : option_map (λ found. first_of (codes "train") found.1) (subcommand_of planner (words_of (codes "graph --train T1"))) ≡ Some (Some (codes "T1"))
unfolding clap_on_literals leaf
the_train = refl

-- The lines of a run are in a file where one is named.
the_journals : map (λ line. option_map (λ found. first_of (codes "journal") found.1) (subcommand_of planner (words_of line))) (codes "graph" ∷ codes "timetable --journal runs" ∷ []) ≡ Some None ∷ Some (Some (codes "runs")) ∷ []
unfolding clap_on_literals leaf
the_journals = refl

-- A page has a plain title where none is named.
the_titles : map (λ line. option_map (λ found. title_in found.1) (subcommand_of planner (words_of line))) (codes "report" ∷ codes "report --journal runs --title Metro" ∷ []) ≡ Some (codes "Report") ∷ Some (codes "Metro") ∷ []
unfolding clap_on_literals leaf
the_titles = refl

-- The plan of a document is in a file where one is named.
the_plans : map (λ line. option_map (λ found. first_of (codes "plan") found.1) (subcommand_of planner (words_of line))) (codes "layout" ∷ codes "lint --before old --plan yard" ∷ []) ≡ Some None ∷ Some (Some (codes "yard")) ∷ []
unfolding clap_on_literals leaf
the_plans = refl

-- The table is the first one where none is named.
the_tables : map (λ line. option_map (λ found. table_in found.1) (subcommand_of planner (words_of line))) (codes "layout" ∷ codes "explain --at 0,1 --table 2" ∷ []) ≡ Some (codes "0") ∷ Some (codes "2") ∷ []
unfolding clap_on_literals leaf
the_tables = refl

-- The greatest budget is taken where none is named, and one that is no budget isn't taken.
the_budgets : map (λ line. option_map (λ found. budget_in found.1) (subcommand_of planner (words_of line))) (codes "certify" ∷ codes "certify --budget 500 --effort small" ∷ codes "certify --budget 0" ∷ []) ≡ Some (Some 1000000) ∷ Some (Some 500) ∷ Some None ∷ []
unfolding clap_on_literals leaf number_of
the_budgets = refl

-- the lines of protect, with the nodes and the rounds that each names
abbrev the_rounds : Text → Option (Option ℕ × Option ℕ)
the_rounds line =
    option_map (λ found. (nodes_in found.1, rounds_in found.1)) (subcommand_of planner (words_of line))

-- Fewer nodes are taken for protect than for certify where none are named, and a hundred rounds.
rounds_few : map the_rounds (codes "protect" ∷ codes "protect --budget 500 --rounds 0" ∷ codes "protect --rounds 1001" ∷ [])
    ≡ Some (Some 50000, Some 100) ∷ Some (Some 500, Some 0) ∷ Some (Some 50000, None) ∷ []
unfolding clap_on_literals leaf number_of
rounds_few = refl

-- clap says of each command but explain which words it takes
taken : map (λ line. takes planner (words_of line)) (codes "plan" ∷ codes "layout --at 1,0" ∷ codes "timetable --csv" ∷ codes "lint --csv" ∷ codes "help" ∷ codes "explain --at 0,1" ∷ []) ≡ true ∷ true ∷ true ∷ false ∷ false ∷ false ∷ []
unfolding clap_on_literals leaf
taken = refl

-- what a line says of the flags that ask for a plan and for entries
abbrev the_flags : Text → Option (Bool × Bool)
the_flags line = option_map (λ found. (is_up (codes "into") found.1, is_up (codes "entries") found.1)) (subcommand_of planner (words_of line))

the_outputs : map the_flags (codes "order" ∷ codes "order --into" ∷ codes "protect --budget 9 --entries" ∷ [])
    ≡ Some (false, false) ∷ Some (true, false) ∷ Some (false, true) ∷ []
unfolding clap_on_literals leaf
the_outputs = refl
