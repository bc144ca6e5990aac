use Rattle.std.proofs.Common.{◌≡◌, ◌++◌, take}
use Rattle.order_sections.proofs.making.joined.Given as goal

abbrev pub invariant-loop-section : goal.invariant-loop-section
invariant-loop-section l = l.all.items ≡ l.own ++ take l.section-index l.more
