use Rattle.std.proofs.Common.{map, take}
use Rattle.ats_words.specs.Built.{IsSubcommand, leaf}
use Rattle.planner_words.specs.Line.{rule_for}
use Rattle.planner_words.proofs.asking.leaf.Given as goal

abbrev pub invariant-loop-choice : goal.invariant-loop-choice
invariant-loop-choice l = IsSubcommand (leaf l.subcommand.name.now (map rule_for (take l.choice-index l.subcommand.choices.now))) l.command
