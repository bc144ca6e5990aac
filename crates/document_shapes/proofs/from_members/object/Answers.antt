use Rattle.document_shapes.specs.Taken.{TakesMembers}
use Rattle.document_shapes.proofs.TokenLemmas.{takes-object, if_some}
use Rattle.document_shapes.proofs.from_members.object.Goals as goal

pub returns : goal.returns
returns g c =
    let F = g.T.FromMembers.finds in
    let mid = c.object_begins.new.tokens.reader in
    let end = c.members.new.tokens.reader in
    let inner = c.in_ok-inner.inner in
    if_some c.members.result (λ x. TakesMembers F inner mid x end) _
    (λ x taken. takes-object c.args.depth inner c.args.tokens.now.reader mid F x end c.in_ok-inner.ensures taken) c.members.ensures
