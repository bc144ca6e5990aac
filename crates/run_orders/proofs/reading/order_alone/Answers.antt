use Rattle.std.proofs.Common.{◌∙◌, ap, inl}
use Rattle.rail_model.specs.Journal.{Journal}
use Rattle.run_orders.proofs.Inputs.{of_input}
use Rattle.run_orders.proofs.reading.order_alone.Goals as goal

pub returns : goal.returns
returns c =
    of_input c.args.input.now _ _ c.ordered_from.result
    (inl (c.in_ok-doc.ensures, ap (λ (J : Journal). J.lines) c.from_lines-none.ensures ∙ c.new.ensures.items)) c.ordered_from.ensures
