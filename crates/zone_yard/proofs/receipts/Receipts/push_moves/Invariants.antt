use Rattle.zone_yard.proofs.Prelude.{◌≡◌, ◌++◌, moves_from}
use Rattle.zone_yard.proofs.receipts.Receipts.push_moves.Given as goal

abbrev pub invariant-loop-step : goal.invariant-loop-step
invariant-loop-step l = l.self ≡ record l.initial.self { items = l.initial.self.items ++ moves_from l.ticket l.table l.claim.train l.claim.place l.step }
