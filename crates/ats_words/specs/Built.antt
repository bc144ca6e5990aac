-- A command as it is built, piece by piece.
use Rattle.std.specs.Prelude.{◌≡◌, List, Some, fold, false}
use Rattle.clap.specs.Words.{App, Rule, Shape, Text, app_of, new_app, new_rule, with_subcommand}
use Rattle.clap.specs.declared.Command.{Command}
use Rattle.clap.specs.declared.Command.TheViews.{out-Command}

-- a long option of this name
abbrev pub long_option : Text → Rule
long_option name = record (new_rule name) { long = Some name }

-- a subcommand of this name with these options
unfoldable pub leaf : Text → List Rule → Shape
leaf name rules = record (new_app name).top { rules = rules }

-- the command with these subcommands more
abbrev pub with_all : List Shape → App → App
with_all more app = fold with_subcommand app more

-- The command has no argument that its subcommands share.
abbrev pub IsLocal : Command → Type 0
IsLocal command = (out-Command command).has_globals ≡ false

-- What a parse reads of the command is `app`.
abbrev pub IsBuiltAs : App → Command → Type 0
IsBuiltAs app command = (app_of command ≡ app) × IsLocal command

-- What a parse reads of the command, as a subcommand, is `shape`.
abbrev pub IsSubcommand : Shape → Command → Type 0
IsSubcommand shape command = ((app_of command).top ≡ shape) × IsLocal command
