use Rattle.std.proofs.Common.{◌&&◌, ◌∙◌, sym, arith}
use Rattle.rail_model.specs.Checks.{blocks}
use Rattle.state_core.specs.Core.{has}
use Rattle.state_core.proofs.Tests.{both_true}
use Rattle.state_core.proofs.First.{first_below, none_found_below}
use Rattle.state_core.proofs.keepers.blocker.Goals as goal

pub returns-then-blocks-clause-first : goal.returns-then-blocks-clause-first
returns-then-blocks-clause-first c =
    sym (first_below (λ j. has c.args.group.now j && blocks c.args.table.now c.args.state.now c.args.train j) _
    c.loop-other.other (omega (arith, c.loop-other-test.true, c.trains_of-other-end.ensures.count))
    (both_true _ _ (sym c.has.ensures ∙ c.if-has.true) (sym c.blocks-then-has.ensures ∙ c.if-blocks.true))
    c.loop-other.invariant)

pub returns-clause-first : goal.returns-clause-first
returns-clause-first c =
    sym (none_found_below (λ j. has c.args.group.now j && blocks c.args.table.now c.args.state.now c.args.train j) _
    (λ k lt. c.loop-other.invariant k
    (omega (arith, lt, c.loop-other-test.false, c.trains_of-other-end.ensures.count))))
