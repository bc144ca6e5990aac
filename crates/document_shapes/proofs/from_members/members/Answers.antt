use Rattle.std.proofs.Common.{◌≡◌, Some, None, arith}
use Rattle.json.specs.Json.{read_key}
use Rattle.json.proofs.Grammar.{read_key-shorter}
use Rattle.document_shapes.specs.Taken.{FindsAt}
use Rattle.document_shapes.proofs.TokenLemmas.{members_start, member_taken, members_done, takes-shorter}
use Rattle.document_shapes.proofs.from_members.members.Goals as goal

pub members-init : goal.members-init
members-init g c = members_start g.T.FromMembers.finds c.args.depth c.args.tokens.now.reader c.nothing-found.result c.nothing-found.ensures

pub members-smaller : goal.members-smaller
members-smaller g c =
    let l = c.members in
    let k = c.in-Some.name.now in
    let mid = c.next_name.new.tokens.reader in
    let named : read_key l.tokens.reader ≡ Some (Some k, mid) = grind arith in
    let shorter = read_key-shorter l.tokens.reader (Some k) mid named in
    let less = takes-shorter (λ d z. FindsAt g.T.FromMembers.finds k l.found d z) c.args.depth c.find.new.self mid c.find.new.tokens.reader c.in_ok-find.ensures in
    omega (arith, shorter, less)

pub members-preserved : goal.members-preserved
members-preserved g c =
    let l = c.members in
    let k = c.in-Some.name.now in
    let mid = c.next_name.new.tokens.reader in
    let named : read_key l.tokens.reader ≡ Some (Some k, mid) = grind arith in
    member_taken g.T.FromMembers.finds c.args.depth c.args.tokens.now.reader l.found c.find.new.self l.tokens.reader mid c.find.new.tokens.reader k l.invariant named c.in_ok-find.ensures

pub returns : goal.returns
returns g c =
    let l = c.members in
    let ended : read_key l.tokens.reader ≡ Some (None, c.next_name.new.tokens.reader) = grind arith in
    members_done g.T.FromMembers.finds c.args.depth c.args.tokens.now.reader l.found l.tokens.reader c.next_name.new.tokens.reader l.invariant ended
