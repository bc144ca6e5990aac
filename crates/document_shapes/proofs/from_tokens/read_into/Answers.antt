use Rattle.document_shapes.proofs.from_tokens.read_into.Goals as goal

pub returns : goal.returns
returns g c = c.in_ok-from_tokens.ensures
