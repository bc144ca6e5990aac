use Rattle.std.proofs.Common.{[], ◌∷◌, Some, sym, ap}
use Rattle.document_shapes.specs.Parts.{connection_of}
use Rattle.document_shapes.proofs.TokenLemmas.{takes-followed}
use Rattle.document_shapes.proofs.token_parts.ConnectionFromTokens.from_tokens.Goals as goal

pub returns : goal.returns
returns c =
    takes-followed c.args.depth c.in_ok-inner.inner c.args.tokens.now.reader c.list_begins.new.tokens.reader connection_of (c.in_ok-train.train ∷ c.in_ok-place.place ∷ c.in_ok-other.other ∷ c.in_ok-reached.reached ∷ []) c.new.result c.list_ends.new.tokens.reader (ap Some (sym c.new.ensures)) c.in_ok-inner.ensures
    (c.from_tokens.new.tokens.reader, c.in_ok-train.ensures, (c.from_tokens-2.new.tokens.reader, c.in_ok-place.ensures, (c.from_tokens-3.new.tokens.reader, c.in_ok-other.ensures, (c.from_tokens-4.new.tokens.reader, c.in_ok-reached.ensures, c.in_ok-list_ends.ensures))))
