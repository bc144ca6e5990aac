use Rattle.std.proofs.Common.{◌∙◌, sym, arith}
use Rattle.state_core.specs.Core.{shuts}
use Rattle.state_core.proofs.First.{first_below, none_found_below}
use Rattle.state_core.proofs.keepers.full_section.Goals as goal

pub returns-then-shuts-clause-first : goal.returns-then-shuts-clause-first
returns-then-shuts-clause-first c =
    sym (first_below (shuts c.args.table.now c.args.state.now c.args.group.now c.args.train) _ c.loop-section.section
    (omega (arith, c.loop-section-test.true, c.sections_of-section-end.ensures.count))
    (sym c.shuts.ensures ∙ c.if-shuts.true) c.loop-section.invariant)

pub returns-clause-first : goal.returns-clause-first
returns-clause-first c =
    sym (none_found_below (shuts c.args.table.now c.args.state.now c.args.group.now c.args.train) _
    (λ k lt. c.loop-section.invariant k
    (omega (arith, lt, c.loop-section-test.false, c.sections_of-section-end.ensures.count))))
