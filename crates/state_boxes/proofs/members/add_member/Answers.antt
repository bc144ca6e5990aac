use Rattle.std.proofs.Common.{◌+◌, List, ℕ, sym, subst}
use Rattle.state_boxes.specs.Extremes.{AreMembers, IsQuiet}
use Rattle.state_boxes.proofs.Shared.{quiet_from_greatest, listed_more, listed_still}
use Rattle.state_boxes.proofs.members.add_member.Goals as goal

pub returns-then-not-has_share : goal.returns-then-not-has_share
returns-then-not-has_share c =
    let T = c.args.table.now in
    listed_still (λ i. IsQuiet T i c.args.section) 0 c.args.train c.args.members.now.items
    (quiet_from_greatest T c.args.train c.args.section c.requires.formed c.requires.train c.requires.section (λ more. absurd (let e = c.has_share.ensures.1 more in cc)))
    c.requires.before

pub returns : goal.returns
returns c =
    subst (λ (xs : List ℕ). AreMembers c.args.table.now c.args.section 0 (c.args.train + 1) xs) (sym c.in_ok-push.ensures.items)
    (listed_more (λ i. IsQuiet c.args.table.now i c.args.section) 0 c.args.train c.args.members.now.items c.requires.before)
