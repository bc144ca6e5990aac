use Rattle.std.proofs.Common.{◌≡◌, ◌≤◌, ◌-◌}
use Rattle.cert_maker.specs.Draft.{IsDraft}
use Rattle.section_repair.specs.Rounds.{IsUnderWay}
use Rattle.section_repair.proofs.rounds.answer.Given as goal

abbrev pub invariant-loop-draft : goal.invariant-loop-draft
invariant-loop-draft l = record {
  under_way : IsUnderWay l.fn.missions l.round;
  draft : IsDraft l.round.former l.draft;
  budget : l.round.budget.nodes ≡ l.fn.budget.nodes;
  within : l.round.used ≤ l.rounds;
}

abbrev pub decreases-loop-draft : goal.decreases-loop-draft
decreases-loop-draft l = l.rounds - l.round.used
