use Rattle.std.proofs.Common.{◌∙◌, [], sym, ap}
use Rattle.std.proofs.lemmas.List.{append-nil}
use Rattle.run_orders.specs.RunOrdered.{lines_in}
use Rattle.run_orders.proofs.drawing.run_from.Goals as goal

pub returns-in_ok-verified-in-Whole : goal.returns-in_ok-verified-in-Whole
returns-in_ok-verified-in-Whole c =
    record { later = []; begins = sym (append-nil _ ∙ ap lines_in c.in-Whole.is); whole = c.in_ok-verified-in-Whole.ensures }
