use Rattle.std.proofs.Common.{◌≡◌, map, take}
use Rattle.plan_document.specs.Shares.{changes}
use Rattle.plan_document.proofs.members.section.Given as goal

abbrev pub invariant-loop-shares : goal.invariant-loop-shares
invariant-loop-shares l = l.found.items ≡ map (λ shares. changes shares.items) (take l.shares-index l.section.shares.items)
