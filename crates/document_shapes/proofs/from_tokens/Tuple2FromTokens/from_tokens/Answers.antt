use Rattle.std.proofs.Common.{◌≡◌, Some, arith}
use Rattle.json.specs.Json.{after_end_array}
use Rattle.document_shapes.proofs.TokenLemmas.{takes-pair}
use Rattle.document_shapes.proofs.from_tokens.Tuple2FromTokens.from_tokens.Goals as goal

pub returns-then-take_end_array : goal.returns-then-take_end_array
returns-then-take_end_array g c =
    let ended : after_end_array c.from_tokens-2.new.tokens.reader ≡ Some c.take_end_array.new.self = grind arith in
    takes-pair c.args.depth c.in_ok-inner.inner c.args.tokens.now.reader c.list_begins.new.tokens.reader g.A.FromTokens.reads g.B.FromTokens.reads c.in_ok-first.first c.in_ok-second.second
    c.from_tokens.new.tokens.reader c.from_tokens-2.new.tokens.reader c.take_end_array.new.self c.in_ok-inner.ensures c.in_ok-first.ensures c.in_ok-second.ensures ended
