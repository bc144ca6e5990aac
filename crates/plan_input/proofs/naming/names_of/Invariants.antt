use Rattle.std.proofs.Common.{◌≡◌, map, string_bytes, take}
use Rattle.toml.specs.View.{view}
use Rattle.plan_input.specs.Named.{name_in}
use Rattle.plan_input.proofs.naming.names_of.Given as goal

abbrev pub invariant-loop-entry : goal.invariant-loop-entry
invariant-loop-entry l = map string_bytes l.names.items ≡ map (λ v. name_in (view v)) (take l.entry-index l.entries)
