use Rattle.std.proofs.Common.{subst}
use Rattle.document_shapes.specs.Added.{AddsTokens}
use Rattle.document_shapes.proofs.AddedLemmas.{adds-seven}
use Rattle.document_shapes.proofs.SeenLemmas.{doc-tokens, doc-in_range}
use Rattle.document_shapes.proofs.writing.DocMembersToTokens.to_tokens.Goals as goal

pub returns-clause-tokens : goal.returns-clause-tokens
returns-clause-tokens c =
    subst (λ ts. AddsTokens ts c.args.text.now c.token-2.new.self) (doc-tokens c.args.self.now)
    (adds-seven _ _ _ _ _ _ _ _ _ _ _ _ _ _ _ _ _ c.token.ensures
    c.write_member.ensures.tokens c.write_member-2.ensures.tokens c.write_member-3.ensures.tokens c.write_member-4.ensures.tokens
    c.write_member-5.ensures.tokens c.write_member-6.ensures.tokens c.write_member-7.ensures.tokens c.token-2.ensures)

pub returns-clause-in_range : goal.returns-clause-in_range
returns-clause-in_range c =
    doc-in_range c.args.self.now c.write_member-7.ensures.in_range c.write_member-5.ensures.in_range c.write_member-4.ensures.in_range
    c.write_member-3.ensures.in_range c.write_member-2.ensures.in_range c.write_member.ensures.in_range
