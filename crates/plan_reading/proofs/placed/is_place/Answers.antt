use Rattle.std.proofs.Common.{◌≡◌, ◌∙◌, ◌+◌, ◌||◌, ℕ, List, Bool, Some, ap, arith, refl, sym}
use Rattle.std.specs.Prelude.{slice_get, take}
use Rattle.std.proofs.lemmas.Option.{slice_get_past, slice_get_read}
use Rattle.plan_reading.specs.Places.{is_counted, is_single, names_there}
use Rattle.plan_reading.proofs.placed.is_place.Goals as goal

pub returns-else-is_single : goal.returns-else-is_single
returns-else-is_single c =
    let said = c.args.said.now in
    let route = c.args.route.now in
    let part = take (c.args.place + 1) route in
    let lookup = c.in-Some.ensures.lookup in
    let here : slice_get route c.args.place ≡ Some c.in-Some.point.now = slice_get_read route _ c.args.place c.in-Some.point.now refl (omega arith) lookup.1 in
    let either : List ℕ → Bool = λ point. is_single said route point || is_counted said part point in
    c.is_counted.ensures
    ∙ ap (λ b. b || is_counted said part c.as_str-point.result.now) (sym c.if-is_single.false ∙ c.is_single.ensures)
    ∙ ap either c.as_str-point.ensures.value
    ∙ ap (names_there said route c.args.place) (sym here)

pub returns-in-None : goal.returns-in-None
returns-in-None c =
    let none = slice_get_past c.args.route.now c.args.place c.in-None.ensures.lookup.3 in
    ap (names_there c.args.said.now c.args.route.now c.args.place) (sym none)
