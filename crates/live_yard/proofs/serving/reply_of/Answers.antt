use Rattle.live_yard.proofs.Wanting.{held_reply}
use Rattle.live_yard.proofs.serving.reply_of.Goals as goal

pub returns-in_default : goal.returns-in_default
returns-in_default c = held_reply c.args.told c.args.line c.in_default.not-May
