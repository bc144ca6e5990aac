use Rattle.std.proofs.Common.{◌∙◌, rules, tests}
use Rattle.std.proofs.lemmas.Iterator.{YieldsList-from_slice}
use Rattle.std.proofs.lemmas.Iterator.Search.{any_from_yields_List}
use Rattle.toml.specs.View.{view}
use Rattle.plan_reading.specs.Agreeing.{is_name}
use Rattle.plan_reading.proofs.Named.{any_is}
use Rattle.plan_reading.proofs.matching.has_name.Goals as goal

pub returns : goal.returns
returns c =
    let any = any_from_yields_List (λ v. is_name (view v) c.args.name.now) c.any.new.self _ c.any.result c.any.ensures.ran (YieldsList-from_slice c.args.values.now cc) (λ x b q k. search (rules, tests)) in
    any ∙ any_is c.args.values.now c.args.name.now
