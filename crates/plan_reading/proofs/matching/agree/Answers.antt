use Rattle.std.proofs.Common.{arith, rules, tests}
use Rattle.std.proofs.lemmas.Iterator.{YieldsList-from_slice, YieldsList-from_zip}
use Rattle.std.proofs.lemmas.Iterator.Search.{all_from_yields_List}
use Rattle.toml.specs.View.{view}
use Rattle.plan_reading.proofs.Compared.{counted}
use Rattle.plan_reading.proofs.matching.agree.Goals as goal

pub returns-then-values-these : goal.returns-then-values-these
returns-then-values-these g c t tells =
    let pairs = YieldsList-from_zip (YieldsList-from_slice c.args.values.now cc) (YieldsList-from_slice c.args.these.now cc) in
    let beside = all_from_yields_List (λ p. t (view p.0) p.1) c.all.new.self _ c.all.result c.all.ensures.ran pairs (λ x b q k. search (rules, tests, tells)) in
    counted t c.args.values.now c.args.these.now c.all.result (omega (arith, c.if-values-these.true)) beside
