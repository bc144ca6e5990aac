use Rattle.std.proofs.Common.{◌≡◌, ◌<◌, ◌+◌, ◌-◌, suc, ◌∙◌, sym, arith, ap, subst}
use Rattle.std.specs.Prelude.{All}
use Rattle.rail_model.specs.Table.{trains}
use Rattle.section_repair.specs.Core.{widened_times}
use Rattle.section_repair.proofs.Steps.{widened-below, widened-same, widened-next}
use Rattle.section_repair.proofs.cores.closure.Goals as goal

pub returns-then-is_same : goal.returns-then-is_same
returns-then-is_same c =
    let T = c.args.table.now in
    let p = c.args.state.now in
    let group = c.loop-turn.group in
    let same : c.in_ok-wider.wider ≡ group = c.is_same.ensures.0 c.if-is_same.true in
    sym (widened-same T p (trains T - c.loop-turn._turn) group (sym c.in_ok-wider.ensures ∙ same)) ∙ c.loop-turn.invariant.leads

pub loop-turn-preserved : goal.loop-turn-preserved
loop-turn-preserved c =
    let T = c.args.table.now in
    let p = c.args.state.now in
    let turn = c.loop-turn._turn in
    let left : trains T - turn ≡ suc (trains T - (turn + 1)) = omega arith in
    record {
      leads = ap (widened_times T p (trains T - (turn + 1))) c.in_ok-wider.ensures
          ∙ sym (widened-next T p (trains T - turn) (trains T - (turn + 1)) c.loop-turn.group left)
          ∙ c.loop-turn.invariant.leads;
      below = subst (All (λ i. i < trains T)) (sym c.in_ok-wider.ensures) (widened-below T p c.loop-turn.group);
    }
