use Rattle.std.proofs.lemmas.Result.{on_ok_weaker}
use Rattle.layout_frame.proofs.legend.push_train.Goals as goal

pub returns : goal.returns
returns c = on_ok_weaker c.push_entry.result (λ is. (_, is)) c.push_entry.ensures
