use Rattle.std.proofs.Common.{ap, rules}
use Rattle.ats_words.specs.Built.{leaf}
use Rattle.ats_words.specs.Options.{rule_for}
use Rattle.ats_words.proofs.Leaves.{one_option_more}
use Rattle.ats_words.proofs.table.leaf.Goals as goal

pub loop-option-init : goal.loop-option-init
unfolding leaf
loop-option-init c = (ap (λ app. app.top) c.new-command.ensures.app, c.new-command.ensures.local)

pub loop-option-preserved : goal.loop-option-preserved
loop-option-preserved c =
    one_option_more rule_for c.args.subcommand.now.name.now c.args.subcommand.now.options.now c.loop-option.option-index _ c.long_option.result c.loop-option.command c.in_ok-command.command (search rules)
    c.long_option.ensures.rule c.long_option.ensures.local c.in_ok-command.ensures c.loop-option.invariant
