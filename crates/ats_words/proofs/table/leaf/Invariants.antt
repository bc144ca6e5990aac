use Rattle.std.proofs.Common.{map, take}
use Rattle.ats_words.specs.Built.{IsSubcommand, leaf}
use Rattle.ats_words.specs.Options.{rule_for}
use Rattle.ats_words.proofs.table.leaf.Given as goal

abbrev pub invariant-loop-option : goal.invariant-loop-option
invariant-loop-option l = IsSubcommand (leaf l.subcommand.name.now (map rule_for (take l.option-index l.subcommand.options.now))) l.command
