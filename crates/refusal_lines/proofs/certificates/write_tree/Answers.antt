use Rattle.refusal_lines.proofs.certificates.write_tree.Goals as goal

pub returns-in-Short : goal.returns-in-Short
returns-in-Short c = rw c.in-Short.is c.write_fields.ensures

pub returns-in-Over : goal.returns-in-Over
returns-in-Over c = rw c.in-Over.is c.write_fields-in-Over.ensures
