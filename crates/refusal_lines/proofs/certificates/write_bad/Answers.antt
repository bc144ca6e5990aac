use Rattle.refusal_lines.proofs.certificates.write_bad.Goals as goal

pub returns-in-Split : goal.returns-in-Split
returns-in-Split c = rw c.in-Split.is c.write_fields.ensures

pub returns-in-MovePoint : goal.returns-in-MovePoint
returns-in-MovePoint c = rw c.in-MovePoint.is c.write_fields-in-MovePoint.ensures

pub returns-in-MoveRoom : goal.returns-in-MoveRoom
returns-in-MoveRoom c = rw c.in-MoveRoom.is c.write_fields-in-MoveRoom.ensures

pub returns-in-Name : goal.returns-in-Name
returns-in-Name c = rw c.in-Name.is c.write_fields-in-Name.ensures

pub returns-in-MoveWait : goal.returns-in-MoveWait
returns-in-MoveWait c = rw c.in-MoveWait.is c.write_fields-in-MoveWait.ensures
