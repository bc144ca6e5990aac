use Rattle.std.proofs.Common.{◌≡◌, ◌⊎◌, ◌-◌, ◌<◌, ℕ, map, length, vec_capacity}
use Rattle.plain_yard.specs.Lines.{IsReady}
use Rattle.plain_yard.specs.Rounds.{Reaches}
use Rattle.plain_yard.proofs.rounds.try_due.Given as goal

abbrev pub invariant-loop : goal.invariant-loop
invariant-loop g l = record {
  ready : IsReady (map g.A.HasTable.offer l.tables) l.yard l.lines.items (vec_capacity l.lines);
  moved : (l.yard ≡ l.initial.yard) ⊎ (l.initial.yard.tried < l.yard.tried);
  room : vec_capacity l.lines ≡ vec_capacity l.initial.lines;
  reaches : (b : ℕ) → Reaches (map g.A.HasTable.offer l.tables) l.initial.yard b l.initial.lines.items l.yard b l.lines.items;
}

abbrev pub decreases-loop : goal.decreases-loop
decreases-loop g l = length l.tables - l.yard.tried
