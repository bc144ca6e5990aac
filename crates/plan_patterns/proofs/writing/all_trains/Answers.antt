use Rattle.std.proofs.Common.{ap, map, sym, ◌∙◌}
use Rattle.std.specs.List.{flat_map}
use Rattle.toml.specs.Data.{array}
use Rattle.toml.specs.View.{items_of, table_view, view}
use Rattle.toml.proofs.Views.{view-Array}
use Rattle.plan_patterns.specs.Expanded.{trains_of}
use Rattle.plan_patterns.proofs.Members.{listed_flat}
use Rattle.plan_patterns.proofs.writing.all_trains.Goals as goal

pub returns-in_ok-all-in-Some : goal.returns-in_ok-all-in-Some
returns-in_ok-all-in-Some c =
    let list = rw c.in-Some.is at c.as_array.ensures in
    let f = trains_of (map view c.args.patterns.now) (table_view c.args.ways.now) in
    let trains =
    c.in_ok-all-in-Some.ensures
    ∙ ap (flat_map (λ v. f (view v))) c.as_slice.ensures.value
    ∙ sym (listed_flat f c.in-Some.items.now.items) in
    view-Array c.in_ok-all-in-Some.all ∙ rw (← list) (ap (λ ds. array (items_of ds)) trains)
