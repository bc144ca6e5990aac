use Rattle.std.proofs.Common.{Some, ap, sym, ◌∙◌}
use Rattle.document_shapes.proofs.Agreement.{agrees-items, agrees-whole}
use Rattle.document_shapes.proofs.token_parts.TrainTimesFromTokens.from_tokens.Goals as goal

pub returns : goal.returns
returns c =
    let steps = c.in_ok-steps.ensures in
    (steps.0, steps.1, steps.2, steps.3, (agrees-items agrees-whole).reads steps.1 c.in_ok-steps.steps steps.4 ∙ ap Some (sym c.from.ensures))
