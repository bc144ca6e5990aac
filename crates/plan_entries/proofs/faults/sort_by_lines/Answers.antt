use Rattle.std.proofs.Common.{rules}
use Rattle.std.proofs.lemmas.List.Sorted.{IsNonDecreasingBy-from_sort_by_key}
use Rattle.plan_entries.specs.declared.faults.Fault.{Fault}
use Rattle.plan_entries.proofs.faults.sort_by_lines.Goals as goal

pub returns-clause-in_order : goal.returns-clause-in_order
returns-clause-in_order c = IsNonDecreasingBy-from_sort_by_key (λ (f : Fault). f.line) _ c.in_ok-sort_by_key.ensures.sorted (λ a r q k. search rules)
