use Rattle.std.proofs.Common.{List, ◌≡◌, ◌-◌, ◌*◌, ◌∙◌, length, ap, sym, subst}
use Rattle.state_boxes.specs.Extremes.{Level, level_at, IsGrowing}
use Rattle.state_boxes.proofs.Growing.{grown}
use Rattle.state_boxes.proofs.levels.train_levels.Goals as goal

pub widen-preserved : goal.widen-preserved
widen-preserved c =
    let T = c.args.table.now in
    let i = c.args.train in
    let levels = c.widen.levels.items in
    let wide : c.in_ok-level.level.width ≡ 2 * (level_at levels (length levels - 1)).width =
    c.in_ok-level.ensures.width ∙ ap (λ (x : Level). 2 * x.width) c.widest-last.ensures
    ∙ ap (λ (xs : List Level). 2 * (level_at xs (length xs - 1)).width) c.deref-in-widen.ensures.value in
    subst (IsGrowing T i) (sym c.in_ok-push-2.ensures.items) (grown T i levels _ c.widen.invariant c.in_ok-level.ensures.level wide)
