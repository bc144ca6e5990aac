use Rattle.std.proofs.Common.{List, ◌∷◌, [], length, ap, arith, length-append}
use Rattle.live_yard.specs.declared.told.Told.{Told}
use Rattle.live_answers.proofs.Choosing.{told_more}
use Rattle.live_answers.proofs.tolds.tolds_of.Goals as goal

pub loop-train-preserved : goal.loop-train-preserved
loop-train-preserved c =
    let before = c.loop-train.tolds.items in
    let told = c.told.result in
    let grows = c.in_ok-push.ensures.items in
    record {
      one_each = omega (
        arith,
        c.loop-train.invariant.one_each,
        length-append before (told ∷ []),
        ap (λ (l : List Told). length l) grows,
      );
      told = told_more c.args.scene.now before _ c.loop-train.train told c.loop-train.invariant.one_each grows
          c.told.ensures
          c.loop-train.invariant.told;
    }
