use Rattle.std.proofs.Common.{◌≡◌, map, string_bytes}
use Rattle.plan_input.specs.Numbered.{numbered}
use Rattle.plan_input.proofs.numbered.numbered.Given as goal

abbrev pub invariant-loop-number : goal.invariant-loop-number
invariant-loop-number l = map string_bytes l.names.items ≡ numbered l.word l.number
