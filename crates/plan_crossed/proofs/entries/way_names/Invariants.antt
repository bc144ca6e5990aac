use Rattle.std.proofs.Common.{◌≡◌, ◌++◌, map, string_bytes}
use Rattle.toml.specs.View.{members_view, table_view}
use Rattle.plan_crossed.specs.Said.{names_of}
use Rattle.plan_crossed.proofs.entries.way_names.Given as goal

abbrev pub invariant-loop-name : goal.invariant-loop-name
invariant-loop-name l = map string_bytes l.found.items ++ names_of (members_view l.name-iterator) ≡ names_of (table_view l.table)
