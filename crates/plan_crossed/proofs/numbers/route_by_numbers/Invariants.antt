use Rattle.std.proofs.Common.{◌≡◌, map, take, string_bytes}
use Rattle.plan_crossed.specs.Numbered.{number_of}
use Rattle.plan_crossed.proofs.numbers.route_by_numbers.Given as goal

abbrev pub invariant-loop-name : goal.invariant-loop-name
invariant-loop-name l = l.numbers.items ≡ map (λ name. number_of l.points (string_bytes name)) (take l.name-index l.route)
