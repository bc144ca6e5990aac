use Rattle.std.proofs.Common.{◌≡◌, ℕ, [], subst, arith}
use Rattle.rail_model.specs.Table.{trains}
use Rattle.state_boxes.specs.Each.{IsEach}
use Rattle.state_boxes.specs.Ways.{spots}
use Rattle.state_boxes.proofs.Listed.{train_written}
use Rattle.state_boxes.proofs.ways.ways_of.Goals as goal

pub loop-train-preserved : goal.loop-train-preserved
loop-train-preserved c =
    let many : c.loop-train.points.len ≡ 512 = omega (arith, c.deref_mut.ensures.len, c.loop-train.invariant.0) in
    train_written c.args.table.now c.loop-train.train c.loop-train.points.items _ _ _ c.deref_mut.ensures.value many c.loop-train.invariant c.in_ok-add_train.ensures

pub returns : goal.returns
returns c =
    let end : c.loop-train.train ≡ trains c.args.table.now = omega arith in
    record {
      formed = c.trains_of-train-end.ensures.formed;
      each_point = subst (λ (n : ℕ). IsEach (λ q row. row ≡ spots c.args.table.now q n) 512 [] c.loop-train.points.items) end c.loop-train.invariant;
    }
