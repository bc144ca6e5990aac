use Rattle.std.proofs.Common.{pos, ◌∙◌, arith, rules, tests}
use Rattle.std.specs.Ordering.{int_eq}
use Rattle.std.proofs.lemmas.Iterator.{YieldsList-from_slice, YieldsList-from_zip}
use Rattle.std.proofs.lemmas.Iterator.Search.{all_from_yields_List}
use Rattle.plan_reading.proofs.Steps.{each_is}
use Rattle.plan_reading.proofs.timed.are_said.Goals as goal

pub returns-then-said-times : goal.returns-then-said-times
returns-then-said-times c =
    let pairs = YieldsList-from_zip (YieldsList-from_slice c.args.said.now cc) (YieldsList-from_slice c.args.times.now cc) in
    let each = all_from_yields_List (λ p. int_eq p.0 (pos p.1)) c.all.new.self _ c.all.result c.all.ensures.ran pairs (λ x b q k. search (rules, tests)) in
    each ∙ each_is c.args.said.now c.args.times.now (omega (arith, c.if-said-times.true))
