use Rattle.std.proofs.Common.{◌≡◌}
use Rattle.toml.specs.View.{members_view, table_view}
use Rattle.plan_patterns.specs.Parts.{and_others}
use Rattle.plan_patterns.proofs.parts.put_others.Given as goal

abbrev pub invariant-loop-key : goal.invariant-loop-key
invariant-loop-key l = and_others (table_view l.table) (members_view l.key-iterator) ≡ and_others (table_view l.fn.table) (table_view l.fn.others)
