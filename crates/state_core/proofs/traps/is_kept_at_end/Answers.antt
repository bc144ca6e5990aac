use Rattle.std.proofs.Common.{◌≡◌, true, ◌∙◌, subst, sym}
use Rattle.state_core.specs.Core.{is_kept}
use Rattle.state_core.proofs.Tests.{Decides-kept}
use Rattle.state_core.proofs.traps.is_kept_at_end.Goals as goal

pub returns-else-last_of-hi : goal.returns-else-last_of-hi
returns-else-last_of-hi c = λ h at early.
    (let T = c.args.table.now in
    let p = c.args.state.now in
    let g = c.args.group.now in
    (Decides-kept T p g c.args.stay.train).0
    (subst (λ k. is_kept T p g k ≡ true) c.train-train.ensures (sym c.is_kept.ensures ∙ h)))
