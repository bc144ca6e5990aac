use Rattle.std.proofs.Common.{ℕ, ◌+◌, ◌<◌, ◌≤◌, List, length, sym, ap, subst, ◌∙◌, arith}
use Rattle.std.proofs.lemmas.List.{length-set}
use Rattle.rail_model.specs.Table.{place}
use Rattle.live_yard.specs.Reported.{IsFirstReport}
use Rattle.live_yard.proofs.FirstReports.{behind_set, first_set}
use Rattle.live_yard.proofs.beginning.first_reports.Goals as goal

pub loop-train-preserved : goal.loop-train-preserved
loop-train-preserved c =
    let p = c.args.positions.now in
    let r = c.loop-train.there in
    let i = c.loop-train.train in
    let k = c.first_report-place.result in
    let before = c.loop-train.invariant in
    let here : i < length r = omega (arith, before.one_each, c.loop-train-test.true, c.requires.trains) in
    let low : k ≤ place p i = omega (arith, c.first_report-place.ensures.behind, c.place.ensures) in
    let first : IsFirstReport c.args.lines.now i (place p i) k =
    subst (λ (at : ℕ). IsFirstReport c.args.lines.now i at k) c.place.ensures c.first_report-place.ensures.first in
    record {
      one_each = ap (λ (q : List ℕ). length q) c.set.ensures ∙ length-set r i k ∙ before.one_each;
      behind = subst (λ (q : List ℕ). (j : ℕ) → place q j ≤ place p j) (sym c.set.ensures)
          (behind_set p r i k here low before.behind);
      first = subst (λ (q : List ℕ). (j : ℕ) → j < i + 1 → IsFirstReport c.args.lines.now j (place p j) (place q j))
          (sym c.set.ensures)
          (first_set c.args.lines.now p r i k here first before.first);
    }
