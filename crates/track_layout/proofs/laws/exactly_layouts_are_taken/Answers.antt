use Rattle.track_layout.proofs.Taken.{taken}
use Rattle.track_layout.proofs.laws.exactly_layouts_are_taken.Goals as goal

pub returns : goal.returns
returns c = taken
