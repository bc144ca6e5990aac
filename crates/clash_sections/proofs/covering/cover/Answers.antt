use Rattle.std.proofs.Common.{arith, below_more}
use Rattle.clash_sections.proofs.Enough.{enough-below}
use Rattle.clash_sections.proofs.covering.cover.Goals as goal

pub loop-stand-preserved : goal.loop-stand-preserved
loop-stand-preserved c = record {
  fit = c.in_ok-cover_stand.ensures.fit;
  covered = below_more _ _
      (λ a l b le clash. c.in_ok-cover_stand.ensures.kept a b (c.loop-stand.invariant.covered a l b le clash))
      c.in_ok-cover_stand.ensures.covered;
}

pub returns-clause-enough : goal.returns-clause-enough
returns-clause-enough c =
    enough-below c.args.clashes.now c.loop-stand.sections.items
    (λ a l b le clash. c.loop-stand.invariant.covered a (omega arith) b le clash)
