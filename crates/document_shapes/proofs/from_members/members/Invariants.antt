use Rattle.std.proofs.Common.{length}
use Rattle.document_shapes.proofs.TokenLemmas.{MembersTo}
use Rattle.document_shapes.proofs.from_members.members.Given as goal

abbrev pub invariant-members : goal.invariant-members
invariant-members g l = MembersTo g.T.FromMembers.finds l.depth l.initial.tokens.reader l.found l.tokens.reader

abbrev pub decreases-members : goal.decreases-members
decreases-members g l = length l.tokens.reader
