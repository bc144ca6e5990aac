-- A subcommand as it gets its options, and a command as it gets its subcommands, one after another.
use Rattle.std.proofs.Common.{◌≡◌, ◌∙◌, ℕ, ◌+◌, ◌<◌, ◌≤◌, List, [], ◌∷◌, ◌++◌, length, take, take_all, get_or, map, fold, sym, ap, ap₂, subst, false, ◌||◌}
use Rattle.std.proofs.lemmas.List.{map_more}
use Rattle.std.proofs.lemmas.List.Sums.{fold_more}
use Rattle.clap.specs.Words.{App, Rule, Shape, Text, AddsArg, app_of, rule_of, with_subcommand}
use Rattle.clap.specs.declared.Arg.{Arg}
use Rattle.clap.specs.declared.Command.{Command}
use Rattle.ats_words.specs.Built.{IsBuiltAs, IsSubcommand, leaf}

-- with its next option, a subcommand that has the options below i has those below i + 1
pub one_option_more : {A : Type 0} (rule_for : A → Rule) (name : Text) (options : List A) (i : ℕ) (d : A) (arg : Arg) (old new : Command) → i < length options
    → rule_of arg ≡ rule_for (get_or options i d) → arg.global ≡ false → AddsArg old arg new → IsSubcommand (leaf name (map rule_for (take i options))) old
    → IsSubcommand (leaf name (map rule_for (take (i + 1) options))) new
unfolding leaf
one_option_more rule_for name options i d arg old new lt is_rule local adds is = (
  ap (λ app. app.top) (adds.shape local) ∙ ap₂ {A = Shape} {B = Rule} (λ top rule. record top { rules = top.rules ++ rule ∷ [] }) is.0 is_rule ∙ ap (leaf name) (sym (map_more rule_for options i d lt)),
  adds.globals ∙ ap₂ ◌||◌ is.1 local,
)

module _ {A : Type 0} (shape : A → Shape) (base : App) (rows : List A) (i : ℕ) where
  -- with the subcommand of its next row, a command that has those of the rows below i has those below i + 1
  pub one_subcommand_more : (d : A) (old new : Command) → i < length rows → IsBuiltAs (fold (λ app row. with_subcommand app (shape row)) base (take i rows)) old
      → IsBuiltAs (with_subcommand (app_of old) (shape (get_or rows i d))) new → IsBuiltAs (fold (λ app row. with_subcommand app (shape row)) base (take (i + 1) rows)) new
  one_subcommand_more d old new lt before is = (
    is.0 ∙ ap (λ app. with_subcommand app (shape (get_or rows i d))) before.0 ∙ sym (fold_more (λ app row. with_subcommand app (shape row)) base rows i d lt),
    is.1,
  )

  pub all_subcommands : (command : Command) → length rows ≤ i → IsBuiltAs (fold (λ app row. with_subcommand app (shape row)) base (take i rows)) command
      → IsBuiltAs (fold (λ app row. with_subcommand app (shape row)) base rows) command
  all_subcommands command past is = subst (λ rs. IsBuiltAs (fold (λ app row. with_subcommand app (shape row)) base rs) command) (take_all i rows past) is
