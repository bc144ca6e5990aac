use Rattle.std.proofs.Common.{refl, inr}
use Rattle.run_orders.proofs.Inputs.{of_input}
use Rattle.run_orders.proofs.reading.order_begun.Goals as goal

pub returns : goal.returns
returns c =
    of_input c.args.input.now _ _ c.ordered_from.result
    (inr (record {
      document = c.args.given.now;
      journal = c.args.journal.now;
      text = c.requires;
      reads = c.in_ok-doc.ensures;
      part = _;
      is_text = c.in_ok-part.ensures;
      lines = refl;
    })) c.ordered_from.ensures
