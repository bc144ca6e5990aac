use Rattle.ats_words.proofs.Leaves.{one_subcommand_more, all_subcommands}
use Rattle.ats_words.proofs.table.command.Goals as goal

pub loop-subcommand-init : goal.loop-subcommand-init
loop-subcommand-init c = c.start-command.ensures

pub loop-subcommand-preserved : goal.loop-subcommand-preserved
loop-subcommand-preserved c =
    one_subcommand_more _ _ _ c.loop-subcommand.subcommand-index _ c.loop-subcommand.command c.in_ok-command.command c.loop-subcommand-test.true c.loop-subcommand.invariant c.in_ok-command.ensures

pub returns : goal.returns
returns c = all_subcommands _ _ _ c.loop-subcommand.subcommand-index c.loop-subcommand.command c.loop-subcommand-test.false c.loop-subcommand.invariant
