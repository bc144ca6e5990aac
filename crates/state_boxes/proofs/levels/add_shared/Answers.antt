use Rattle.std.proofs.Common.{◌+◌, List, ℕ, sym, subst}
use Rattle.state_boxes.specs.Extremes.{AreShared, IsQuiet}
use Rattle.state_boxes.proofs.Shared.{quiet_from_greatest, listed_more, listed_still}
use Rattle.state_boxes.proofs.levels.add_shared.Goals as goal

pub returns-then-not-has_share : goal.returns-then-not-has_share
returns-then-not-has_share c =
    let T = c.args.table.now in
    listed_still (IsQuiet T c.args.train) 0 c.args.section c.args.sections.now.items
    (quiet_from_greatest T c.args.train c.args.section c.requires.formed c.requires.train c.requires.section (λ more. absurd (let e = c.has_share.ensures.1 more in cc)))
    c.requires.before

pub returns : goal.returns
returns c =
    subst (λ (xs : List ℕ). AreShared c.args.table.now c.args.train 0 (c.args.section + 1) xs) (sym c.in_ok-push.ensures.items)
    (listed_more (IsQuiet c.args.table.now c.args.train) 0 c.args.section c.args.sections.now.items c.requires.before)
