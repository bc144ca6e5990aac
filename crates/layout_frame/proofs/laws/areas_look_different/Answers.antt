use Rattle.layout_frame.proofs.Different.{look_different}
use Rattle.layout_frame.proofs.laws.areas_look_different.Goals as goal

pub returns : goal.returns
returns c = look_different
