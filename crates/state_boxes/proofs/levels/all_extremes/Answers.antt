use Rattle.std.proofs.Common.{◌≡◌, ◌+◌, ◌-◌, ◌*◌, ◌<◌, ◌∙◌, [], get_or, length, ap, sym, subst, arith}
use Rattle.rail_model.specs.Table.{last, share}
use Rattle.state_boxes.specs.Extremes.{Level, joined, IsExtremes, IsRow, IsLevel}
use Rattle.state_boxes.proofs.Joins.{extremes_join}
use Rattle.state_boxes.proofs.levels.all_extremes.Goals as goal

pub returns : goal.returns
returns c =
    let T = c.args.table.now in
    let i = c.args.train in
    let s = c.args.section in
    let f = share T i s in
    let end = last T i in
    let level : Level = c.widest-level.result.now in
    let w = level.width in
    let is_last = c.widest-level.ensures in
    let is_level : IsLevel T i level = subst (IsLevel T i) (sym is_last) (c.requires.levels.growing.each_level (length c.args.levels.now - 1) (omega (arith, c.requires.levels.growing.some_level))) in
    let wide : end + 1 < 2 * w = subst (λ (l : Level). end + 1 < 2 * l.width) (sym is_last) c.requires.levels.widest in
    let some = is_level.some_places in
    let fits = is_level.fits in
    let last_is = c.last_of.ensures.last in
    let width_is = c.width.ensures in
    let first = subst (IsRow T i 0 (w - 1)) (sym c.row-front.ensures) (is_level.each_row.1 0 (omega (arith, some, fits))) in
    let there : c.last_of.result + 1 - c.width.result ≡ end + 1 - w = omega (arith, last_is, width_is) in
    let second = subst (IsRow T i (end + 1 - w) (w - 1)) (sym (c.row-back.ensures ∙ ap (λ k. get_or level.rows k []) there))
    (is_level.each_row.1 (end + 1 - w) (omega (arith, some, fits))) in
    subst (IsExtremes f 0 end) (sym (c.joined.ensures ∙ (λ j. joined (c.at.ensures j) (c.at-2.ensures j))))
    (extremes_join f 0 end (end + 1 - w) (w - 1) (w - 1) _ _ (omega (arith, some, fits)) (omega arith) (omega (arith, some, wide)) (omega (arith, some, fits))
    (first.1 s c.requires.section)
    (second.1 s c.requires.section))
