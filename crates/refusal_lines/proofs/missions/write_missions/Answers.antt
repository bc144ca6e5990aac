use Rattle.refusal_lines.proofs.missions.write_missions.Goals as goal

pub returns-in-UnknownPoint : goal.returns-in-UnknownPoint
returns-in-UnknownPoint c = rw c.in-UnknownPoint.is c.write_fields-in-UnknownPoint.ensures

pub returns-in-Lists : goal.returns-in-Lists
returns-in-Lists c = rw c.in-Lists.is c.write_fields-in-Lists.ensures

pub returns-in-Exits : goal.returns-in-Exits
returns-in-Exits c = rw c.in-Exits.is c.write_fields-in-Exits.ensures
