use Rattle.std.proofs.Common.{sym, ◌∙◌}
use Rattle.section_repair.proofs.Asks.{full_section}
use Rattle.section_repair.proofs.cores.waits_for.Goals as goal

pub share_at-requires-clause-section : goal.share_at-requires-clause-section
share_at-requires-clause-section c =
    full_section c.args.table.now c.args.state.now c.args.train c.in-Full.section c.in-Full.count c.requires.formed c.requires.legal c.requires.train
    (sym c.in-Full.is ∙ c.requires.told)
