use Rattle.std.proofs.Common.{◌≡◌, Some, None, subst, arith}
use Rattle.json.specs.Json.{after_end_array}
use Rattle.document_shapes.specs.Taken.{Takes}
use Rattle.document_shapes.proofs.TokenLemmas.{item_taken, items_done, takes-shorter}
use Rattle.document_shapes.proofs.from_tokens.items.Goals as goal

pub items-smaller : goal.items-smaller
items-smaller g c =
    let l = c.items in
    let going : (after_end_array l.tokens.reader ≡ None) × (c.take_end_array.new.self ≡ l.tokens.reader) = grind arith in
    let R = g.T.FromTokens.reads in
    let rest = c.from_tokens.new.tokens.reader in
    let taken : Takes R c.args.depth l.tokens.reader c.in_ok-item.item rest = subst (λ r. Takes R c.args.depth r c.in_ok-item.item rest) going.1 c.in_ok-item.ensures in
    takes-shorter R c.args.depth c.in_ok-item.item l.tokens.reader rest taken

pub items-preserved : goal.items-preserved
items-preserved g c =
    let l = c.items in
    let going : (after_end_array l.tokens.reader ≡ None) × (c.take_end_array.new.self ≡ l.tokens.reader) = grind arith in
    let R = g.T.FromTokens.reads in
    let rest = c.from_tokens.new.tokens.reader in
    let taken : Takes R c.args.depth l.tokens.reader c.in_ok-item.item rest = subst (λ r. Takes R c.args.depth r c.in_ok-item.item rest) going.1 c.in_ok-item.ensures in
    item_taken R c.args.depth c.args.tokens.now.reader l.found.items c.push.new.list.items l.tokens.reader rest c.in_ok-item.item l.invariant going.0 taken c.in_ok-push.ensures

pub returns : goal.returns
returns g c =
    let l = c.items in
    let ended : after_end_array l.tokens.reader ≡ Some c.take_end_array.new.self = grind arith in
    items_done g.T.FromTokens.reads c.args.depth c.args.tokens.now.reader l.found.items l.tokens.reader c.take_end_array.new.self l.invariant ended
