use Rattle.train_sim.proofs.Keeping.{may_ask}
use Rattle.train_sim.proofs.playing.move_train.Goals as goal

pub unreachable-requires : goal.unreachable-requires
unreachable-requires g c = c.in_default.not-Yes (may_ask c.args.run.now.tables c.args.run.now.yard c.args.train c.ask.result c.requires c.ask.ensures.answer)
