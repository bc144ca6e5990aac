use Rattle.std.proofs.Common.{List, ℕ, length, ◌<◌, subst, sym}
use Rattle.state_core.specs.Least.{IsWithin}
use Rattle.state_core.proofs.Leaving.{others_in, others_fewer, keeps_whole, loose_member}
use Rattle.state_core.proofs.least.kept_part.Goals as goal

pub loop-train-smaller : goal.loop-train-smaller
loop-train-smaller c =
    let group = c.loop-train.group in
    subst (λ (left : List ℕ). length left < length group) (sym c.in_ok-group.ensures)
    (others_fewer group c.in-Some.train (loose_member c.args.table.now c.args.state.now group c.in-Some.train c.in-Some.ensures))

pub loop-train-preserved : goal.loop-train-preserved
loop-train-preserved c =
    let T = c.args.table.now in
    let p = c.args.state.now in
    let group = c.loop-train.group in
    let train = c.in-Some.train in
    record {
      inside = subst (λ (left : List ℕ). IsWithin T left c.args.group) (sym c.in_ok-group.ensures)
          (λ i lt member. c.loop-train.invariant.inside i lt (others_in group train i member));
      cores = λ core is_core within.
          subst (λ (left : List ℕ). IsWithin T core left) (sym c.in_ok-group.ensures)
          (keeps_whole T p core group c.requires.formed c.requires.placed (c.loop-train.invariant.cores core is_core within) train is_core
          c.in-Some.ensures);
    }
