use Rattle.ats_answers.specs.Making.{tables_in}
use Rattle.ats_answers.proofs.Made.{AreMadeBelow}
use Rattle.ats_answers.proofs.making.make_all.Given as goal

abbrev pub invariant-loop-table : goal.invariant-loop-table
invariant-loop-table l = AreMadeBelow (tables_in l.doc) l.budget.nodes l.table l.certs.items
