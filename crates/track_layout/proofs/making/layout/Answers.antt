use Rattle.std.proofs.Common.{◌≡◌, ◌∙◌, ◌⊎◌, ℕ, List, String, Global, Result, IsErrAnd, Some, None, Ok, Err, ap, subst, sym, inl, inr, arith, length, map, string_bytes, refl}
use Rattle.rail_model.specs.Layout.{Layout, IsLayout}
use Rattle.rail_model.specs.Turns.{AnswersAs, first_of}
use Rattle.rail_model.proofs.Firsts.{Answers-err}
use Rattle.track_layout.specs.Making.{bad_name, double_name, unknown_point, names_of, zones_of, link_value, layout_value, layout_refusal, layout_from}
use Rattle.track_layout.specs.Doubling.{point_refusal}
use Rattle.track_layout.specs.Seen.{points_seen, links_seen}
use Rattle.track_layout.specs.declared.refused.LayoutRefused.{LayoutRefused}
use Rattle.track_layout.specs.declared.refused.LayoutRefused.TheVariants.{Memory}
use Rattle.track_layout.proofs.Checks.{pass, stop}
use Rattle.track_layout.proofs.Order.{count_rows, zone_rows, grouped, refused_by, made_by, counts_seen, names_are, zones_are, numbered_names, double_names, links_joined, joined_links, lost_link, listed_points}
use Rattle.track_layout.proofs.Formed.{formed}
use Rattle.track_layout.proofs.making.layout.Goals.{After-check_counts, After-check_names, After-check_zones, In_ok-numbers, In_ok-joined, In_ok-points}
use Rattle.track_layout.proofs.making.layout.Goals as goal

-- ---- what the checks read is what is seen of the points and links that are given

counted : (c : After-check_counts) → first_of (count_rows c.len.result (length c.args.links.now) c.args.zones)
    ≡ first_of (count_rows (length (points_seen c.args.points.items)) (length (links_seen c.args.links.now)) c.args.zones)
counted c =
    counts_seen c.args.points.items c.args.links.now c.args.zones c.len.result (length c.args.links.now)
    (omega (arith, c.args.points.ok.0)) refl

names_tested : (c : After-check_names) → bad_name (map string_bytes c.deref.result.now) ≡ bad_name (names_of (points_seen c.args.points.items))
names_tested c =
    let names = names_are c.args.points.items c.in_ok-names.names.items c.in_ok-names.ensures.names in
    ap bad_name (ap (map string_bytes) c.deref.ensures.value ∙ names)

zones_tested : (c : After-check_zones)
    → first_of (zone_rows c.deref-2.result.now c.args.zones) ≡ first_of (zone_rows (zones_of (points_seen c.args.points.items)) c.args.zones)
zones_tested c =
    let in_zones = zones_are c.args.points.items c.in_ok-names.in_zones.items c.in_ok-names.ensures.zones in
    ap (λ zs. first_of (zone_rows zs c.args.zones)) (c.deref-2.ensures.value ∙ in_zones)

-- the names that are numbered are no doubles, and are those of the points
numbered : (c : In_ok-numbers)
    → (None ≡ double_name (names_of (points_seen c.args.points.items))) × (c.in_ok-numbers.numbers ≡ names_of (points_seen c.args.points.items))
numbered c =
    let names = names_are c.args.points.items c.in_ok-names.names.items c.in_ok-names.ensures.names in
    let apart = numbered_names (map string_bytes c.in_ok-names.names.items) c.in_ok-numbers.numbers c.in_ok-numbers.ensures in
    (apart.0 ∙ ap double_name names, sym apart.1 ∙ names)

-- the links that are joined by these names have known points
joined : (c : In_ok-joined) → c.in_ok-numbers.numbers ≡ names_of (points_seen c.args.points.items)
    → (None ≡ unknown_point (names_of (points_seen c.args.points.items)) (links_seen c.args.links.now))
    × (map (link_value (names_of (points_seen c.args.points.items))) (links_seen c.args.links.now) ≡ c.in_ok-joined.joined.items)
joined c numbers =
    let same = sym (ap (λ names. links_joined names c.args.links.now) numbers) in
    joined_links (names_of (points_seen c.args.points.items)) c.args.links.now c.in_ok-joined.joined.items (same ∙ c.in_ok-joined.ensures)

-- the layout that is made is that of what is seen
made : (c : In_ok-points) → c.in_ok-numbers.numbers ≡ names_of (points_seen c.args.points.items)
    → map (link_value (names_of (points_seen c.args.points.items))) (links_seen c.args.links.now) ≡ c.in_ok-joined.joined.items
    → layout_value (points_seen c.args.points.items) (links_seen c.args.links.now) c.args.zones
    ≡ record { points = c.in_ok-points.points.items; links = c.in_ok-joined.joined.items; zones = c.args.zones }
made c numbers links =
    let in_zones = zones_are c.args.points.items c.in_ok-names.in_zones.items c.in_ok-names.ensures.zones in
    let names = c.in_ok-into_names.ensures ∙ numbers in
    let listed = listed_points (points_seen c.args.points.items) c.in_ok-into_names.field-0.items c.in_ok-names.in_zones.items names in_zones in
    let points = c.in_ok-points.ensures ∙ listed in
    λ i. record { points = sym points i; links = links i; zones = c.args.zones }

-- an error that is passed up is the answer, where it is the first refusal
told : (points : List (String Global × ℕ)) (links : List (String Global × String Global)) (zones : ℕ) (result : Result Layout LayoutRefused)
    (e : LayoutRefused) → IsErrAnd result (λ y. y ≡ e)
    → (e ≡ Memory) ⊎ (layout_refusal (points_seen points) (links_seen links) zones ≡ Some e)
    → AnswersAs Memory (λ made. made) result (layout_from (points_seen points) (links_seen links) zones)
told points links zones result e is why =
    let answer = elim why as (λ _. (e ≡ Memory) ⊎ (layout_from (points_seen points) (links_seen links) zones ≡ Err e)) [
      | inl m ↦ inl m
      | inr r ↦ inr (refused_by (points_seen points) (links_seen links) zones e r)
    ] in
    Answers-err Memory (λ made. made) result (layout_from (points_seen points) (links_seen links) zones) e is answer

-- ---- the answers, each by what is left to look for after the checks before it

pub returns-in_err-check_counts : goal.returns-in_err-check_counts
returns-in_err-check_counts c =
    let at = goal.at.returns-in_err-check_counts c in
    let all = grouped (points_seen c.args.points.items) (links_seen c.args.links.now) c.args.zones in
    told c.args.points.items c.args.links.now c.args.zones c.from_residual.result c.in_err-check_counts.field-0.0 c.from_residual.ensures.1
    (inr (stop all (c.in_err-check_counts.ensures ∙ counted at.After-check_counts)))

pub returns-in_err-check_names : goal.returns-in_err-check_names
returns-in_err-check_names c =
    let at = goal.at.returns-in_err-check_names c in
    let all = grouped (points_seen c.args.points.items) (links_seen c.args.links.now) c.args.zones in
    let names_left = pass all (c.in_ok-check_counts.ensures ∙ counted at.After-check_counts) in
    told c.args.points.items c.args.links.now c.args.zones c.from_residual-in_err-check_names.result c.in_err-check_names.field-0.0
    c.from_residual-in_err-check_names.ensures.1
    (inr (stop names_left (c.in_err-check_names.ensures ∙ names_tested at.After-check_names)))

pub returns-in_err-numbers : goal.returns-in_err-numbers
returns-in_err-numbers c =
    let at = goal.at.returns-in_err-numbers c in
    let points = points_seen c.args.points.items in
    let links = links_seen c.args.links.now in
    let names = names_are c.args.points.items c.in_ok-names.names.items c.in_ok-names.ensures.names in
    let names_left = pass (grouped points links c.args.zones) (c.in_ok-check_counts.ensures ∙ counted at.After-check_counts) in
    let doubles_left = pass names_left (c.in_ok-check_names.ensures ∙ names_tested at.After-check_names) in
    let e = c.in_err-numbers.field-0.0 in
    let why = elim c.in_err-numbers.ensures as (λ _. (point_refusal e ≡ Memory) ⊎ (layout_refusal points links c.args.zones ≡ Some (point_refusal e))) [
      | inl m ↦ inl (ap point_refusal m)
      | inr d ↦ inr (stop doubles_left (double_names (map string_bytes c.in_ok-names.names.items) e d ∙ ap double_name names))
    ] in
    told c.args.points.items c.args.links.now c.args.zones c.from_residual-in_err-numbers.result (point_refusal e)
    c.from_residual-in_err-numbers.ensures.1 why

pub returns-in_err-check_zones : goal.returns-in_err-check_zones
returns-in_err-check_zones c =
    let at = goal.at.returns-in_err-check_zones c in
    let all = grouped (points_seen c.args.points.items) (links_seen c.args.links.now) c.args.zones in
    let names_left = pass all (c.in_ok-check_counts.ensures ∙ counted at.After-check_counts) in
    let doubles_left = pass names_left (c.in_ok-check_names.ensures ∙ names_tested at.After-check_names) in
    let zones_left = pass doubles_left (numbered at.In_ok-numbers).0 in
    told c.args.points.items c.args.links.now c.args.zones c.from_residual-in_err-check_zones.result c.in_err-check_zones.field-0.0
    c.from_residual-in_err-check_zones.ensures.1
    (inr (stop zones_left (c.in_err-check_zones.ensures ∙ zones_tested at.After-check_zones)))

pub returns-in_err-joined : goal.returns-in_err-joined
returns-in_err-joined c =
    let at = goal.at.returns-in_err-joined c in
    let points = points_seen c.args.points.items in
    let links = links_seen c.args.links.now in
    let numbers = numbered at.In_ok-numbers in
    let names_left = pass (grouped points links c.args.zones) (c.in_ok-check_counts.ensures ∙ counted at.After-check_counts) in
    let doubles_left = pass names_left (c.in_ok-check_names.ensures ∙ names_tested at.After-check_names) in
    let zones_left = pass doubles_left numbers.0 in
    let links_left = pass zones_left (c.in_ok-check_zones.ensures ∙ zones_tested at.After-check_zones) in
    let same = sym (ap (λ names. links_joined names c.args.links.now) numbers.1) in
    let e = c.in_err-joined.field-0.0 in
    let why = elim c.in_err-joined.ensures as (λ _. (e ≡ Memory) ⊎ (layout_refusal points links c.args.zones ≡ Some e)) [
      | inl m ↦ inl m
      | inr d ↦ inr (stop links_left (lost_link (names_of points) c.args.links.now e (same ∙ d)))
    ] in
    told c.args.points.items c.args.links.now c.args.zones c.from_residual-in_err-joined.result e c.from_residual-in_err-joined.ensures.1 why

pub returns-in_err-check_self_links : goal.returns-in_err-check_self_links
returns-in_err-check_self_links c =
    let at = goal.at.returns-in_err-check_self_links c in
    let all = grouped (points_seen c.args.points.items) (links_seen c.args.links.now) c.args.zones in
    let numbers = numbered at.In_ok-numbers in
    let names_left = pass all (c.in_ok-check_counts.ensures ∙ counted at.After-check_counts) in
    let doubles_left = pass names_left (c.in_ok-check_names.ensures ∙ names_tested at.After-check_names) in
    let zones_left = pass doubles_left numbers.0 in
    let links_left = pass zones_left (c.in_ok-check_zones.ensures ∙ zones_tested at.After-check_zones) in
    let self_links_left = pass links_left (joined at.In_ok-joined numbers.1).0 in
    told c.args.points.items c.args.links.now c.args.zones c.from_residual-in_err-check_self_links.result
    c.in_err-check_self_links.field-0.0 c.from_residual-in_err-check_self_links.ensures.1
    (inr (stop self_links_left c.in_err-check_self_links.ensures))

pub new-requires-2 : goal.new-requires-2
new-requires-2 c =
    let at = goal.at.new-requires-2 c in
    let points = points_seen c.args.points.items in
    let links = links_seen c.args.links.now in
    let numbers = numbered at.In_ok-numbers in
    let ends = joined at.In_ok-joined numbers.1 in
    let names_left = pass (grouped points links c.args.zones) (c.in_ok-check_counts.ensures ∙ counted at.After-check_counts) in
    let doubles_left = pass names_left (c.in_ok-check_names.ensures ∙ names_tested at.After-check_names) in
    let zones_left = pass doubles_left numbers.0 in
    let links_left = pass zones_left (c.in_ok-check_zones.ensures ∙ zones_tested at.After-check_zones) in
    let none_left = pass (pass links_left ends.0) c.in_ok-check_self_links.ensures in
    subst IsLayout (made at.In_ok-points numbers.1 ends.1) (formed points links c.args.zones none_left.is)

pub returns : goal.returns
returns c =
    let at = goal.at.returns c in
    let points = points_seen c.args.points.items in
    let links = links_seen c.args.links.now in
    let numbers = numbered at.In_ok-numbers in
    let ends = joined at.In_ok-joined numbers.1 in
    let names_left = pass (grouped points links c.args.zones) (c.in_ok-check_counts.ensures ∙ counted at.After-check_counts) in
    let doubles_left = pass names_left (c.in_ok-check_names.ensures ∙ names_tested at.After-check_names) in
    let zones_left = pass doubles_left numbers.0 in
    let links_left = pass zones_left (c.in_ok-check_zones.ensures ∙ zones_tested at.After-check_zones) in
    let none_left = pass (pass links_left ends.0) c.in_ok-check_self_links.ensures in
    made_by points links c.args.zones none_left.is ∙ ap Ok (made at.In_ok-points numbers.1 ends.1 ∙ sym c.new-2.ensures)
