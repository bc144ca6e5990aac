use Rattle.std.proofs.Common.{[], ◌∷◌, codes}
use Rattle.json.specs.Token.{key}
use Rattle.document_shapes.proofs.AddedLemmas.{adds-more}
use Rattle.document_shapes.proofs.to_tokens.write_changes.Goals as goal

pub returns-clause-tokens : goal.returns-clause-tokens
returns-clause-tokens c = adds-more (key (codes "changes") ∷ []) _ _ _ _ c.token.ensures c.write_list.ensures.tokens
