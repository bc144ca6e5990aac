use Rattle.std.proofs.Common.{subst}
use Rattle.live_answers.specs.Seen.{Seen, IsTold}
use Rattle.live_answers.proofs.scene.Scene.told.Goals as goal

pub returns : goal.returns
returns c = subst (λ (v : Seen). IsTold v c.args.train c.tell.result) c.self.view_is c.tell.ensures.told
