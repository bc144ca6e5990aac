use Rattle.std.proofs.Common.{[], ◌∷◌, ap}
use Rattle.rail_model.specs.declared.types.Node.TheVariants.{Split, Clash, Overfull, Arrived, Move}
use Rattle.document_shapes.specs.Parts.{node_of}
use Rattle.document_shapes.proofs.TokenLemmas.{takes-followed}
use Rattle.document_shapes.proofs.token_parts.NodeFromTokens.from_tokens.Goals as goal

pub returns-in_ok-list_ends-in-0 : goal.returns-in_ok-list_ends-in-0
returns-in_ok-list_ends-in-0 c =
    takes-followed c.args.depth c.in_ok-inner.inner c.args.tokens.now.reader c.list_begins.new.tokens.reader node_of (c.in_ok-from_tokens.field-0 ∷ c.in_ok-train-in-0.train ∷ c.in_ok-place-in-0.place ∷ []) (Split c.in_ok-train-in-0.train c.in_ok-place-in-0.place) c.list_ends.new.tokens.reader
    (ap (λ kind. node_of (kind ∷ c.in_ok-train-in-0.train ∷ c.in_ok-place-in-0.place ∷ [])) c.in-0.is) c.in_ok-inner.ensures (c.from_tokens.new.tokens.reader, c.in_ok-from_tokens.ensures, (c.from_tokens-in-0.new.tokens.reader, c.in_ok-train-in-0.ensures, (c.from_tokens-in-0-2.new.tokens.reader, c.in_ok-place-in-0.ensures, c.in_ok-list_ends-in-0.ensures)))

pub returns-in_ok-list_ends-in-1 : goal.returns-in_ok-list_ends-in-1
returns-in_ok-list_ends-in-1 c =
    takes-followed c.args.depth c.in_ok-inner.inner c.args.tokens.now.reader c.list_begins.new.tokens.reader node_of (c.in_ok-from_tokens.field-0 ∷ c.in_ok-first-in-1.first ∷ c.in_ok-second-in-1.second ∷ []) (Clash c.in_ok-first-in-1.first c.in_ok-second-in-1.second) c.list_ends-in-1.new.tokens.reader
    (ap (λ kind. node_of (kind ∷ c.in_ok-first-in-1.first ∷ c.in_ok-second-in-1.second ∷ [])) c.in-1.is) c.in_ok-inner.ensures (c.from_tokens.new.tokens.reader, c.in_ok-from_tokens.ensures, (c.from_tokens-in-1.new.tokens.reader, c.in_ok-first-in-1.ensures, (c.from_tokens-in-1-2.new.tokens.reader, c.in_ok-second-in-1.ensures, c.in_ok-list_ends-in-1.ensures)))

pub returns-in_ok-list_ends-in-2 : goal.returns-in_ok-list_ends-in-2
returns-in_ok-list_ends-in-2 c =
    takes-followed c.args.depth c.in_ok-inner.inner c.args.tokens.now.reader c.list_begins.new.tokens.reader node_of (c.in_ok-from_tokens.field-0 ∷ c.in_ok-section-in-2.section ∷ []) (Overfull c.in_ok-section-in-2.section) c.list_ends-in-2.new.tokens.reader
    (ap (λ kind. node_of (kind ∷ c.in_ok-section-in-2.section ∷ [])) c.in-2.is) c.in_ok-inner.ensures (c.from_tokens.new.tokens.reader, c.in_ok-from_tokens.ensures, (c.from_tokens-in-2.new.tokens.reader, c.in_ok-section-in-2.ensures, c.in_ok-list_ends-in-2.ensures))

pub returns-in_ok-list_ends-in-3 : goal.returns-in_ok-list_ends-in-3
returns-in_ok-list_ends-in-3 c =
    takes-followed c.args.depth c.in_ok-inner.inner c.args.tokens.now.reader c.list_begins.new.tokens.reader node_of (c.in_ok-from_tokens.field-0 ∷ []) Arrived c.list_ends-in-3.new.tokens.reader
    (ap (λ kind. node_of (kind ∷ [])) c.in-3.is) c.in_ok-inner.ensures (c.from_tokens.new.tokens.reader, c.in_ok-from_tokens.ensures, c.in_ok-list_ends-in-3.ensures)

pub returns-in_ok-list_ends-in-4 : goal.returns-in_ok-list_ends-in-4
returns-in_ok-list_ends-in-4 c =
    takes-followed c.args.depth c.in_ok-inner.inner c.args.tokens.now.reader c.list_begins.new.tokens.reader node_of (c.in_ok-from_tokens.field-0 ∷ c.in_ok-train-in-4.train ∷ []) (Move c.in_ok-train-in-4.train) c.list_ends-in-4.new.tokens.reader
    (ap (λ kind. node_of (kind ∷ c.in_ok-train-in-4.train ∷ [])) c.in-4.is) c.in_ok-inner.ensures (c.from_tokens.new.tokens.reader, c.in_ok-from_tokens.ensures, (c.from_tokens-in-4.new.tokens.reader, c.in_ok-train-in-4.ensures, c.in_ok-list_ends-in-4.ensures))
