use Rattle.document_shapes.specs.Readings.{ReadsList}
use Rattle.document_shapes.specs.Taken.{TakesItems}
use Rattle.document_shapes.proofs.TokenLemmas.{takes-list, if_some}
use Rattle.document_shapes.proofs.from_tokens.VecFromTokens.from_tokens.Goals as goal

pub returns : goal.returns
returns g c =
    let R = g.T.FromTokens.reads in
    let mid = c.list_begins.new.tokens.reader in
    let end = c.items.new.tokens.reader in
    let inner = c.in_ok-inner.inner in
    if_some c.items.result (λ v. TakesItems R inner mid v.items end) _
    (λ v taken. takes-list c.args.depth inner c.args.tokens.now.reader mid R (λ d w. ReadsList R d w.items) v.items v end (λ ds reads. reads) c.in_ok-inner.ensures taken) c.items.ensures
