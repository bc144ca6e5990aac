use Rattle.std.proofs.Common.{◌≡◌, ℕ, ◌<◌, pos}
use Rattle.rail_model.specs.Table.{share}
use Rattle.order_sections.proofs.keeping.has_no_share.Given as goal

abbrev pub invariant-loop-a : goal.invariant-loop-a
invariant-loop-a l = (a : ℕ) → a < l.a → share l.table l.train l.section a ≡ pos 0
