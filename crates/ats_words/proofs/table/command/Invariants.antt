use Rattle.std.proofs.Common.{map, fold, take}
use Rattle.clap.specs.Words.{with_subcommand}
use Rattle.ats_words.specs.Built.{IsBuiltAs, leaf}
use Rattle.ats_words.specs.Options.{rule_for}
use Rattle.ats_words.specs.Words.{start}
use Rattle.ats_words.proofs.table.command.Given as goal

abbrev pub invariant-loop-subcommand : goal.invariant-loop-subcommand
invariant-loop-subcommand l =
    IsBuiltAs (fold (λ app row. with_subcommand app (leaf row.name.now (map rule_for row.options.now))) start (take l.subcommand-index l.subcommands)) l.command
