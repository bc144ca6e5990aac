use Rattle.ring_sections.proofs.LeadingBack.{lost_none_left, lost_far, lost_shut, lost_taken, lost_covered}
use Rattle.ring_sections.proofs.leading.is_lost.Goals as goal
use Rattle.ring_sections.proofs.leading.is_lost.Goals.{then-from-eq0-via-then-from-eq0, then-from-eq0-via-else-from-eq0+then-chart-from, then-from-eq0-via-else-from-eq0+else-chart-from+then-from-shut, then-from-eq0-via-else-from-eq0+else-chart-from+else-from-shut+then-is_taken}

pub returns-then-from-eq0-clause-lost : goal.returns-then-from-eq0-clause-lost
returns-then-from-eq0-clause-lost c = λ _. elim c.then-from-eq0.branch [
  | then-from-eq0-via-then-from-eq0 w ↦ lost_none_left c.args.chart.now.missions.now c.args.way.now c.args.shut c.args.from c.requires.away w.if-from-eq0.true
  | then-from-eq0-via-else-from-eq0+then-chart-from w ↦
      lost_far c.args.chart.now.missions.now c.args.way.now c.args.shut c.args.from c.args.chart.now.levels.now c.requires.levels w.if-chart-from.true
  | then-from-eq0-via-else-from-eq0+else-chart-from+then-from-shut w ↦ lost_shut c.args.chart.now.missions.now c.args.way.now c.args.shut c.args.from c.requires.away w.if-from-shut.true
  | then-from-eq0-via-else-from-eq0+else-chart-from+else-from-shut+then-is_taken w ↦
      lost_taken c.args.chart.now.missions.now c.args.way.now c.args.shut c.args.from c.requires.away (w.is_taken.ensures.0 w.if-is_taken.true)
]

pub returns-clause-lost : goal.returns-clause-lost
returns-clause-lost c = λ e. lost_covered c.args.chart.now.missions.now c.args.way.now c.args.shut c.args.from c.args.lost.now c.none.result c.requires.lost (c.is_covered.ensures e)
