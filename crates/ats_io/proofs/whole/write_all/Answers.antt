use Rattle.std.proofs.Common.{◌≡◌, ◌∙◌, ◌-◌, length, take, drop, sym, subst, ap, arith, take_all, length-drop}
use Rattle.std.proofs.Math.Seq.{take-add}
use Rattle.ats_io.proofs.Adding.{adds_both}
use Rattle.ats_io.specs.Bytes.{Adds}
use Rattle.ats_io.proofs.whole.write_all.Goals as goal

pub loop-done-preserved : goal.loop-done-preserved
loop-done-preserved g c =
    let bytes = c.args.bytes.now in
    let rest : take (length bytes - c.loop-done.done) (drop c.loop-done.done bytes) ≡ drop c.loop-done.done bytes =
    take_all _ _ (omega (arith, length-drop c.loop-done.done bytes)) in
    let wrote = rw rest at c.in-Ok.ensures.added in
    record {
      within = omega (arith, c.in-Ok.ensures.within, length-drop c.loop-done.done bytes, ap length rest);
      wrote = subst (Adds _ _) (sym (take-add c.loop-done.done c.in-Ok.count bytes)) (adds_both _ _ _ _ _ c.loop-done.invariant.wrote wrote);
      later = omega (arith, c.write.ensures.never_falls);
    }
