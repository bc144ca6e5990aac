-- What a parse of the command reads.
use Rattle.std.proofs.Common.{◌≡◌, ◌∙◌, List, ap, true, Option, Some, None, refl}
use Rattle.std.specs.Prelude.{option_map, unwrap_or}
use Rattle.std.specs.Borrow.{Bor}
use Rattle.clap.proofs.OnLiterals.{clap_on_literals}
use Rattle.clap.specs.Words.{Text, HasMatchesOf, app_of, is_simple, subcommand_of, subcommand_rows_of}
use Rattle.clap.specs.declared.ArgMatches.{ArgMatches}
use Rattle.clap.specs.declared.Command.{Command}
use Rattle.ats_words.specs.Built.{leaf}
use Rattle.planner_words.specs.Line.{planner}

-- clap says exactly what is found in the command's words
pub planner_is_simple : is_simple planner ≡ true
unfolding clap_on_literals leaf
planner_is_simple = refl

-- what a parse of the command finds is what clap's definition finds in the words
pub found_in : (c : Command) (words : List Text) (m : ArgMatches) → app_of c ≡ planner → HasMatchesOf (app_of c) words m → subcommand_rows_of m ≡ subcommand_of planner words
found_in c words m is matches = (matches (ap is_simple is ∙ planner_is_simple)).1 ∙ ap (λ app. subcommand_of app words) is

-- the text behind a reference or behind the one for none
pub now_or : (found : Option (Bor Text)) (other : Bor Text) → (unwrap_or found other).now ≡ unwrap_or (option_map (λ s. s.now) found) other.now
now_or None other = refl
now_or (Some text) other = refl
