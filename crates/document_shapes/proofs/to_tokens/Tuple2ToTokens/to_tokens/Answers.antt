use Rattle.json.specs.Token.{begin_array, end_array}
use Rattle.document_shapes.proofs.AddedLemmas.{adds-two}
use Rattle.document_shapes.proofs.to_tokens.Tuple2ToTokens.to_tokens.Goals as goal

pub returns-clause-tokens : goal.returns-clause-tokens
returns-clause-tokens g c =
    adds-two begin_array end_array _ _ _ _ _ _ _ c.begin_array.ensures c.to_tokens.ensures.tokens c.to_tokens-2.ensures.tokens c.end_array.ensures

pub returns-clause-in_range : goal.returns-clause-in_range
returns-clause-in_range g c = (c.to_tokens.ensures.in_range, c.to_tokens-2.ensures.in_range)
