use Rattle.refusal_lines.proofs.journals.write_ask.Goals as goal

pub returns-in-Full : goal.returns-in-Full
returns-in-Full c = rw c.in-Full.is c.write_fields-in-Full.ensures

pub returns-in-Waits : goal.returns-in-Waits
returns-in-Waits c = rw c.in-Waits.is c.write_fields-in-Waits.ensures
