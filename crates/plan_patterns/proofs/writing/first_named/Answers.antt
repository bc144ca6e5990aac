use Rattle.std.proofs.Common.{◌∙◌, ap, rules, tests}
use Rattle.std.specs.Prelude.{option_map}
use Rattle.std.proofs.lemmas.Iterator.{YieldsList-from_slice}
use Rattle.std.proofs.lemmas.Iterator.Search.{find_from_yields_List}
use Rattle.toml.specs.View.{view}
use Rattle.toml.proofs.Views.{view_of_ref}
use Rattle.plan_patterns.specs.Expanded.{is_named}
use Rattle.plan_patterns.proofs.Bases.{find_view}
use Rattle.plan_patterns.proofs.writing.first_named.Goals as goal

pub returns : goal.returns
returns c =
    let t = is_named c.args.name.now in
    let found = find_from_yields_List (λ v. t (view v)) _ _ c.find.result c.find.ensures.ran (YieldsList-from_slice c.args.patterns.now cc) (λ x b q k. search (rules, tests)) in
    view_of_ref c.find.result ∙ ap (option_map view) found ∙ find_view t c.args.patterns.now
