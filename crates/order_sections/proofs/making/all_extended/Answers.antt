use Rattle.std.proofs.Common.{◌∷◌, [], ap, ◌∙◌, length, length-append, arith}
use Rattle.rail_model.specs.Table.{Table}
use Rattle.order_sections.specs.Orders.{with_more}
use Rattle.order_sections.proofs.Tested.{adds_more, formed_more}
use Rattle.order_sections.proofs.making.all_extended.Goals as goal

pub loop-number-preserved : goal.loop-number-preserved
loop-number-preserved c =
    let before = c.loop-number.made.items in
    let after = c.add_extended.new.made.items in
    let n = c.loop-number.number in
    let e = c.in_ok-add_extended.ensures in
    let T = e.0 in
    let more = e.1 in
    let value = e.4 ∙ ap (λ (U : Table). with_more U more) c.table_in.ensures in
    record {
      count = omega (arith, ap length e.2, length-append before (T ∷ []), c.loop-number.invariant.count);
      formed = formed_more before after n T c.loop-number.invariant.count e.2 e.3 c.loop-number.invariant.formed;
      adds = adds_more c.args.tables.now before after n T more c.loop-number.invariant.count e.2 value c.loop-number.invariant.adds;
    }
