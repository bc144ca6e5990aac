use Rattle.std.proofs.Common.{◌∙◌, ap, rules}
use Rattle.clap.specs.Simple.{shape_of_fields}
use Rattle.ats_words.specs.Built.{leaf}
use Rattle.ats_words.proofs.Leaves.{one_option_more}
use Rattle.planner_words.specs.Line.{rule_for}
use Rattle.planner_words.proofs.asking.leaf.Goals as goal

pub loop-choice-init : goal.loop-choice-init
unfolding leaf
loop-choice-init c = (
  ap shape_of_fields c.about-command.ensures ∙ ap (λ app. app.top) c.new.ensures.app,
  ap (λ fields. fields.has_globals) c.about-command.ensures ∙ c.new.ensures.local,
)

pub loop-choice-preserved : goal.loop-choice-preserved
loop-choice-preserved c =
    one_option_more rule_for c.args.subcommand.now.name.now c.args.subcommand.now.choices.now c.loop-choice.choice-index _ _ c.loop-choice.command c.in_ok-command.command (search rules)
    c.in_ok-option.ensures.0 c.in_ok-option.ensures.1 c.in_ok-command.ensures c.loop-choice.invariant
