use Rattle.std.proofs.Common.{◌≡◌, ◌<◌, ℕ, List, take, length, refl, ap, subst, ◌∙◌, arith}
use Rattle.std.specs.Prelude.{All, slice_index}
use Rattle.std.proofs.lemmas.List.{take_all}
use Rattle.std.proofs.lemmas.List.Elements.{All-more, All-weaker}
use Rattle.live_yard.specs.Wants.{HasWant, StandsIn}
use Rattle.live_answers.proofs.Joining.{stood_grows, stood_has}
use Rattle.live_answers.proofs.waiting.join.Goals as goal

pub loop-train-preserved : goal.loop-train-preserved
loop-train-preserved c =
    let by = c.args.by.now in
    let before = c.loop-train.invariant in
    let row = c.loop-train.row.wants in
    let longer = c.stand.new.self.wants in
    let k = c.loop-train.train-index in
    let i = slice_index by k in
    let within : k < length by = c.loop-train-test.true in
    let stands : StandsIn row i longer = c.stand.ensures.stands in
    let has = stood_has row longer i stands in
    record {
      trains = c.stand.ensures.trains ∙ before.trains;
      added = stood_grows c.args.row.now.wants row longer by before.added.0 i before.added.1 before.added.2
          (k, within, refl) stands;
      all = All-more (HasWant longer) by k 0 within
          (All-weaker (HasWant row) (HasWant longer) has.1 (take k by) before.all) has.0;
    }

pub returns-clause-joined : goal.returns-clause-joined
returns-clause-joined c =
    let by = c.args.by.now in
    let all = c.loop-train.invariant in
    let end : c.loop-train.train-index ≡ length by = omega
    (arith, c.loop-train-test.false, c.loop-train.auto.train-index-end) in
    record {
      added = all.added.0;
      grows = all.added.1;
      from = all.added.2;
      all = subst (λ (l : List ℕ). All (HasWant c.loop-train.row.wants) l)
          (ap (λ (n : ℕ). take n by) end ∙ take_all (length by) by (omega arith)) all.all;
    }
