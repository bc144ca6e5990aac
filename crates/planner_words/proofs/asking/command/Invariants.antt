use Rattle.std.proofs.Common.{fold, take}
use Rattle.clap.specs.Words.{with_subcommand}
use Rattle.ats_words.specs.Built.{IsBuiltAs}
use Rattle.planner_words.specs.Line.{shape_of, start}
use Rattle.planner_words.proofs.asking.command.Given as goal

abbrev pub invariant-loop-subcommand : goal.invariant-loop-subcommand
invariant-loop-subcommand l =
    IsBuiltAs (fold (λ app subcommand. with_subcommand app (shape_of subcommand)) start (take l.subcommand-index l.subcommands)) l.command
