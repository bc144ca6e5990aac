use Rattle.std.proofs.Common.{Some, ap, sym, ◌∙◌}
use Rattle.document_shapes.proofs.Agreement.{agrees-items, agrees-change}
use Rattle.document_shapes.proofs.token_parts.ChangesFromTokens.from_tokens.Goals as goal

pub returns : goal.returns
returns c =
    let changes = c.in_ok-changes.ensures in
    (changes.0, changes.1, changes.2, changes.3, (agrees-items agrees-change).reads changes.1 c.in_ok-changes.changes changes.4 ∙ ap Some (sym c.from.ensures))
