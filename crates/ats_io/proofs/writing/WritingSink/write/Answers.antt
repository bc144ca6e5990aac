use Rattle.ats_io.proofs.writing.WritingSink.write.Goals as goal

pub returns-in-Ok-clause-some : goal.returns-in-Ok-clause-some
returns-in-Ok-clause-some g c = c.in-Ok.ensures.some
