use Rattle.run_orders.proofs.reading.ordered_from.Goals as goal

pub returns : goal.returns
returns c = (_, c.in_ok-run.ensures, c.in_ok-made.ensures)
