use Rattle.std.proofs.Common.{◌≤◌, arith, subst}
use Rattle.std.proofs.lemmas.List.{take_all}
use Rattle.std.proofs.lemmas.List.Elements.{All-more}
use Rattle.ring_sections.specs.Search.{AreUpTo}
use Rattle.ring_sections.proofs.standing.latest_of.Goals as goal

pub loop-pair-preserved : goal.loop-pair-preserved
loop-pair-preserved c =
    All-more (λ w. w.0 ≤ c.max-latest.result) c.args.pairs.now c.loop-pair.pair-index (0, 0) (omega arith) (λ k d l. let up = c.loop-pair.invariant k d l in grind (arith, up)) (grind arith)

pub returns : goal.returns
returns c = subst (AreUpTo c.loop-pair.latest) (take_all c.loop-pair.pair-index c.args.pairs.now (omega arith)) c.loop-pair.invariant
