use Rattle.std.proofs.Common.{◌∙◌, ap, rules, tests}
use Rattle.std.specs.Prelude.{option_map}
use Rattle.std.proofs.lemmas.Iterator.{YieldsList-from_slice}
use Rattle.std.proofs.lemmas.Iterator.Search.{find_from_yields_List}
use Rattle.toml.specs.View.{view}
use Rattle.toml.proofs.Views.{view_of_ref}
use Rattle.plan_reading.specs.Agreeing.{is_named}
use Rattle.plan_reading.proofs.Named.{first_is}
use Rattle.plan_reading.proofs.agreement.first_named.Goals as goal

pub returns : goal.returns
returns c =
    let found = find_from_yields_List (λ v. is_named (view v) c.args.name.now) _ _ c.find.result c.find.ensures.ran (YieldsList-from_slice c.args.entries.now cc) (λ x b q k. search (rules, tests)) in
    view_of_ref c.find.result ∙ ap (option_map view) found ∙ first_is c.args.name.now c.args.entries.now
