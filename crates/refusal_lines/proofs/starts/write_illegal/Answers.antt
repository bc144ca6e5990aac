use Rattle.refusal_lines.proofs.starts.write_illegal.Goals as goal

pub returns-in-Clash : goal.returns-in-Clash
returns-in-Clash c = rw c.in-Clash.is c.write_fields-in-Clash.ensures

pub returns-in-Over : goal.returns-in-Over
returns-in-Over c = rw c.in-Over.is c.write_fields-in-Over.ensures
