use Rattle.refusal_lines.proofs.layouts.write_trains.Goals as goal

pub returns-in-DoubleName : goal.returns-in-DoubleName
returns-in-DoubleName c = rw c.in-DoubleName.is c.write_fields-in-DoubleName.ensures
