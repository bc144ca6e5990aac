use Rattle.std.proofs.Common.{ap}
use Rattle.ats_io.specs.Memory.{Supply}
use Rattle.ats_rows.proofs.InMemory.{played_by}
use Rattle.ats_rows.proofs.calls.play_by.Goals as goal

pub returns : goal.returns
returns g c = played_by _ _ _ _ _ _ (ap (λ (s : Supply). s.left) c.new-source.ensures) c.play_on.ensures
