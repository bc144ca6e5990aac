use Rattle.document_shapes.proofs.to_tokens.NodeToTokens.to_tokens.Goals as goal

pub returns-in-Move-clause-tokens : goal.returns-in-Move-clause-tokens
returns-in-Move-clause-tokens c = rw c.in-Move.is c.write_list-in-Move.ensures.tokens
