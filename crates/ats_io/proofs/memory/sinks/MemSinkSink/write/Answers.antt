use Rattle.std.proofs.Common.{ap, ◌∙◌}
use Rattle.ats_io.specs.Memory.{Plan}
use Rattle.ats_io.proofs.Failing.{still_due}
use Rattle.ats_io.proofs.memory.sinks.MemSinkSink.write.Goals as goal

pub invariant_of-self-2 : goal.invariant_of-self-2
invariant_of-self-2 g c =
    (c.self.invariant.0, ap (λ (p : Plan). p.fails) c.pass.ensures ∙ c.self.invariant.1, still_due _ _ _ _ _ c.pass.ensures c.add.ensures c.self.invariant.2)
