use Rattle.std.proofs.Common.{◌≡◌, ◌+◌, ◌-◌, ◌*◌, ◌≤◌, ◌∙◌, [], get_or, ap, sym, subst, arith}
use Rattle.std.specs.Prelude.{slice_index}
use Rattle.state_boxes.specs.Extremes.{Level, IsRow, IsLevel, IsJoinedRow}
use Rattle.state_boxes.proofs.Halved.{is_joined}
use Rattle.state_boxes.proofs.Joins.{row_join}
use Rattle.state_boxes.proofs.levels.TrainShares.row.Goals as goal

pub returns : goal.returns
returns c =
    let T = c.args.table.now in
    let i = c.args.train in
    let lo = c.args.span.lo in
    let hi = c.args.span.hi in
    let shares = c.requires.shares in
    let level : Level = c.level-level.result.now in
    let w = level.width in
    let is_picked = c.level-level.ensures in
    let picked = shares.picks.1 (hi - lo) (omega (arith, c.requires.some, c.requires.in_range)) in
    let is_level : IsLevel T i level = subst (IsLevel T i) (sym is_picked) (shares.levels.growing.each_level (slice_index c.args.self.now.picks (hi - lo)) picked.there) in
    let within : w ≤ hi - lo + 1 = subst (λ (l : Level). l.width ≤ hi - lo + 1) (sym is_picked) picked.within in
    let covers : hi - lo + 1 ≤ 2 * w = subst (λ (l : Level). hi - lo + 1 ≤ 2 * l.width) (sym is_picked) picked.covers in
    let there : c.hi.result - (c.width.result - 1) ≡ hi - (w - 1) = omega (arith, c.hi.ensures, c.width.ensures) in
    let first = subst (IsRow T i lo (w - 1)) (sym (c.row-front.ensures ∙ ap (λ k. get_or level.rows k []) c.lo.ensures))
    (is_level.each_row.1 lo (omega (arith, c.requires.some, c.requires.in_range, within, is_level.some_places))) in
    let second = subst (IsRow T i (hi - (w - 1)) (w - 1)) (sym (c.row-back.ensures ∙ ap (λ k. get_or level.rows k []) there))
    (is_level.each_row.1 (hi - (w - 1)) (omega (arith, c.requires.some, c.requires.in_range, within, is_level.some_places))) in
    let joined = subst (IsJoinedRow c.row-front.result c.row-back.result) (sym c.new.ensures) (is_joined _ _ (second.0 ∙ sym first.0)) in
    row_join T i lo (hi - lo) (hi - (w - 1)) (w - 1) (w - 1) _ _ _ (omega (arith, within)) (omega (arith, c.requires.some, within))
    (omega (arith, c.requires.some, within, covers)) (omega (arith, c.requires.some, within, is_level.some_places)) first second joined
