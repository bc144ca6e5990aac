use Rattle.std.proofs.Common.{◌≡◌, map, take}
use Rattle.clash_sections.specs.Sections.{share_of}
use Rattle.plan_crossings.proofs.shares.shares_of.Given as goal

abbrev pub invariant-loop-number : goal.invariant-loop-number
invariant-loop-number l = l.found.items ≡ map (share_of l.section) (take l.number-index l.numbers)
