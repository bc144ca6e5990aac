use Rattle.std.proofs.Common.{◌≡◌, sym, arith, subst, Some}
use Rattle.std.specs.List.{position_from}
use Rattle.section_repair.specs.Joining.{joins}
use Rattle.section_repair.proofs.Steps.{partner-below, settled-taken}
use Rattle.section_repair.proofs.joining.settled.Goals as goal

pub remove-other-requires : goal.remove-other-requires
remove-other-requires c =
    let found = sym c.in-Some.ensures in
    let within = partner-below c.deref.result.now c.loop-index.last c.in-Some.index found in
    omega (arith, c.deref.ensures.len)

pub loop-index-preserved : goal.loop-index-preserved
loop-index-preserved c =
    let S = c.loop-index.sections.items in
    let b = c.loop-index.last in
    let k = c.in-Some.index in
    let found : position_from (λ a. joins a b) 0 S ≡ Some k = subst (λ v. position_from (λ a. joins a b) 0 v ≡ Some k) c.deref.ensures.value (sym c.in-Some.ensures) in
    let taken = settled-taken S b c.remove-other.result k found c.remove-other.ensures.value in
    let rest = c.remove-other.ensures.items in
    let left = c.as_slice.ensures in
    let right = c.as_slice-in-Some.ensures in
    let joined = c.in_ok-last.ensures in
    let before = c.loop-index.invariant in
    cc
