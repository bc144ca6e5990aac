use Rattle.std.proofs.Common.{ap, map, sym, ◌∙◌}
use Rattle.toml.specs.Data.{array}
use Rattle.toml.specs.View.{items_of, table_view, view}
use Rattle.toml.proofs.Views.{view-Array}
use Rattle.plan_patterns.specs.Expanded.{own_trains}
use Rattle.plan_patterns.proofs.Members.{listed_map}
use Rattle.plan_patterns.proofs.writing.all_tables.Goals as goal

pub returns-in_ok-all-in-Some : goal.returns-in_ok-all-in-Some
returns-in_ok-all-in-Some c =
    let list = rw c.in-Some.is at c.as_array.ensures in
    let f = own_trains (map view c.args.patterns.now) (table_view c.args.ways.now) in
    let tables =
    c.in_ok-all-in-Some.ensures
    ∙ ap (map (λ v. f (view v))) c.as_slice.ensures.value
    ∙ sym (listed_map f c.in-Some.items.now.items) in
    view-Array c.in_ok-all-in-Some.all ∙ rw (← list) (ap (λ ds. array (items_of ds)) tables)
