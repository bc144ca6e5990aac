use Rattle.std.proofs.Common.{◌≡◌, List, take, sym, subst, refl, arith}
use Rattle.cert_checker.specs.declared.loads.Load.{Load}
use Rattle.cert_checker.specs.Cut.{parts_of}
use Rattle.cert_checker.proofs.Dealt.{dealt_more}
use Rattle.cert_checker.proofs.loads.loads_of.Goals.{then-saturating_sub-full+in_ok-push, else-saturating_sub-full}
use Rattle.cert_checker.proofs.loads.loads_of.Goals as goal

pub loop-index-preserved : goal.loop-index-preserved
loop-index-preserved c =
    elim c.if-saturating_sub-full.branch [
      | then-saturating_sub-full+in_ok-push w ↦ record {
        within = omega (arith, w.begin-is);
        dealt = rw (w.loads-is, w.begin-is)
            (subst (λ (ls : List Load). parts_of ls ≡ take c.loop-index.index c.args.parts.now) (sym w.in_ok-push.ensures.items)
            (dealt_more c.loop-index.loads.items _ c.args.parts.now c.loop-index.begin c.loop-index.index c.loop-index.invariant.dealt refl c.loop-index.invariant.within));
      }
      | else-saturating_sub-full w ↦ grind (arith, c.loop-index.invariant, w.loads-is, w.begin-is)
    ]
