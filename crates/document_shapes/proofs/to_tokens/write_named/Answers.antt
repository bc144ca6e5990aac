use Rattle.std.proofs.Common.{[], ◌∷◌}
use Rattle.json.specs.Token.{key}
use Rattle.document_shapes.proofs.AddedLemmas.{adds-more}
use Rattle.document_shapes.proofs.to_tokens.write_named.Goals as goal

pub returns-clause-tokens : goal.returns-clause-tokens
returns-clause-tokens g c = adds-more (key c.args.name.now ∷ []) _ _ _ _ c.token.ensures c.to_tokens.ensures.tokens
