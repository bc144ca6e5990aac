use Rattle.std.proofs.Common.{ap, sym, ◌∙◌}
use Rattle.std.specs.List.{flat_map}
use Rattle.toml.specs.Data.{array}
use Rattle.toml.specs.View.{items_of, table_view, view}
use Rattle.toml.proofs.Views.{view-Array}
use Rattle.plan_patterns.specs.Ways.{count_of, points_of}
use Rattle.plan_patterns.proofs.Along.{count_view}
use Rattle.plan_patterns.proofs.Members.{listed_flat}
use Rattle.plan_patterns.proofs.ways.laid_route.Goals as goal

pub returns-in_ok-points-in-Some : goal.returns-in_ok-points-in-Some
returns-in_ok-points-in-Some c =
    let list = rw c.in-Some.is at c.as_array.ensures in
    let ways = table_view c.args.ways.now in
    let items = c.in-Some.items.now.items in
    let points =
    c.in_ok-points-in-Some.ensures
    ∙ ap (flat_map (λ v. points_of c.len.result ways (view v))) c.as_slice.ensures.value
    ∙ ap (λ n. flat_map (λ v. points_of n ways (view v)) items) (c.len.ensures.len ∙ sym (count_view c.args.ways.now.entries))
    ∙ sym (listed_flat (points_of (count_of ways) ways) items) in
    view-Array c.in_ok-points-in-Some.points ∙ rw (← list) (ap (λ ds. array (items_of ds)) points)
