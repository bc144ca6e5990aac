use Rattle.std.proofs.Common.{refl, inr}
use Rattle.section_repair.specs.declared.repaired.Repair.TheVariants as repair
use Rattle.ats_answers.proofs.Repaired.{is_repaired, dooms_alike, ends_repair}
use Rattle.ats_answers.proofs.repairing.repair_one.Goals as goal

pub returns-in-Done-clause-repaired : goal.returns-in-Done-clause-repaired
returns-in-Done-clause-repaired c =
    is_repaired c.args.table c.into_missions.result c.args.budget.nodes c.args.rounds c.in_ok-table.field-0 c.into_missions.ensures.missions
    c.in-Done.table c.in-Done.cert c.in-Done.rounds c.in-Done.is c.in_ok-table.ensures.repairs c.in_ok-table.ensures.exact

pub returns-in-Done-clause-dooms : goal.returns-in-Done-clause-dooms
returns-in-Done-clause-dooms c = λ m.
    dooms_alike c.args.table c.into_missions.result c.args.budget.nodes c.args.rounds c.in_ok-table.field-0 c.into_missions.ensures.missions
    c.in-Done.table c.in-Done.cert c.in-Done.rounds m c.in-Done.is c.in_ok-table.ensures.dooms

pub returns-in-Spent-clause-none : goal.returns-in-Spent-clause-none
returns-in-Spent-clause-none c = inr (
  refl,
  (
    c.in-Spent.table,
    ends_repair c.args.table c.into_missions.result c.args.budget.nodes c.args.rounds c.in_ok-table.field-0 c.into_missions.ensures.missions
        (repair.Spent c.in-Spent.table c.in-Spent.nodes) c.in-Spent.is c.in_ok-table.ensures.repairs c.in_ok-table.ensures.loses_nothing,
  ),
)

pub returns-in-Rounds-clause-none : goal.returns-in-Rounds-clause-none
returns-in-Rounds-clause-none c = inr (
  refl,
  (
    c.in-Rounds.table,
    ends_repair c.args.table c.into_missions.result c.args.budget.nodes c.args.rounds c.in_ok-table.field-0 c.into_missions.ensures.missions
        (repair.Rounds c.in-Rounds.table c.in-Rounds.rounds c.in-Rounds.at) c.in-Rounds.is c.in_ok-table.ensures.repairs c.in_ok-table.ensures.loses_nothing,
  ),
)

pub returns-clause-none : goal.returns-clause-none
returns-clause-none c = inr (
  refl,
  (
    c.in-Many.table,
    ends_repair c.args.table c.into_missions.result c.args.budget.nodes c.args.rounds c.in_ok-table.field-0 c.into_missions.ensures.missions
        (repair.Many c.in-Many.table c.in-Many.count) c.in-Many.is c.in_ok-table.ensures.repairs c.in_ok-table.ensures.loses_nothing,
  ),
)
