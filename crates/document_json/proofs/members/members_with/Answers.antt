use Rattle.std.proofs.Common.{◌∙◌, ap, map}
use Rattle.rail_model.specs.Layout.{Layout}
use Rattle.rail_model.specs.Names.{Names}
use Rattle.document_shapes.specs.Seen.{seen_table}
use Rattle.document_json.specs.Written.{point_pair, link_pair}
use Rattle.document_json.proofs.members.members_with.Goals as goal

pub returns : goal.returns
returns c =
    let layout = c.layout-layout.ensures.layout in
    let names = c.names-names.ensures.names in
    let points = c.in_ok-points.ensures ∙ ap (map point_pair) (c.points.ensures.points ∙ ap (λ (L : Layout). L.points) layout) in
    let listed = c.links.ensures.links ∙ ap (λ (L : Layout). L.links) layout in
    let links = c.in_ok-links.ensures ∙ λ j. map (link_pair (names j)) (listed j) in
    let zones = c.zones_of.ensures.count ∙ ap (λ (L : Layout). L.zones) layout in
    let trains = c.in_ok-trains.ensures ∙ ap (λ (N : Names). N.trains) names in
    let start = c.in_ok-from_slice.ensures.items ∙ c.as_slice.ensures ∙ c.start.ensures.start in
    λ j. record { version = c.args.version; points = points j; links = links j; zones = zones j; trains = trains j; start = start j; tables = map seen_table c.args.tables.items }
