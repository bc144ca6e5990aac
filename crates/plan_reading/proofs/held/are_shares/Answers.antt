use Rattle.std.proofs.Common.{arith, length, rules, tests}
use Rattle.std.proofs.lemmas.Iterator.{YieldsList-from_slice, YieldsList-from_zip}
use Rattle.std.proofs.lemmas.Iterator.Search.{all_from_yields_List}
use Rattle.toml.specs.View.{view}
use Rattle.plan_reading.specs.Held.{has_shares}
use Rattle.plan_reading.proofs.Compared.{as_many}
use Rattle.plan_reading.proofs.held.are_shares.Goals as goal

pub returns-then-shares-trains : goal.returns-then-shares-trains
returns-then-shares-trains c =
    let trains = c.args.trains.now in
    let shares = c.args.shares.now in
    let last = YieldsList-from_zip (YieldsList-from_slice c.args.table.now.exits.items cc) (YieldsList-from_slice shares cc) in
    let later = YieldsList-from_zip (YieldsList-from_slice c.args.table.now.routes.items cc) last in
    let rows = YieldsList-from_zip (YieldsList-from_slice trains cc) later in
    let beside =
    all_from_yields_List (λ p. has_shares (view c.args.entry.now) p.0 p.1.0.items p.1.1.0 p.1.1.1.items) c.all.new.self _ c.all.result
    c.all.ensures.ran rows (λ x b q k. search (rules, tests)) in
    as_many (length shares) (length trains) _ c.all.result (omega (arith, c.if-shares-trains.true)) beside
