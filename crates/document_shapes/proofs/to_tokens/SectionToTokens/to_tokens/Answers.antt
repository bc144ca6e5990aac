use Rattle.std.proofs.Common.{◌≡◌, All, subst}
use Rattle.json.specs.Token.{begin_object, end_object}
use Rattle.document_shapes.specs.Added.{AddsTokens, tokens_of}
use Rattle.document_shapes.specs.InRange.{IsSmall, IsChange}
use Rattle.document_shapes.specs.Written.{list_data, change_data, section_data, section_of}
use Rattle.document_shapes.proofs.AddedLemmas.{adds-two}
use Rattle.document_shapes.proofs.to_tokens.SectionToTokens.to_tokens.Goals as goal

pub returns-clause-tokens : goal.returns-clause-tokens
returns-clause-tokens c =
    let whole : section_of (list_data (list_data change_data) c.all_changes.result.now) c.limit.result ≡ section_data c.args.self.now =
    λ i. section_of (list_data (list_data change_data) (c.all_changes.ensures i)) (c.limit.ensures i) in
    subst (λ d. AddsTokens (tokens_of d) c.args.text.now c.token-2.new.self) whole
    (adds-two begin_object end_object _ _ _ _ _ _ _ c.token.ensures c.write_changes.ensures.tokens c.write_named.ensures.tokens c.token-2.ensures)

pub returns-clause-in_range : goal.returns-clause-in_range
returns-clause-in_range c = record {
  limit = subst IsSmall c.limit.ensures c.write_named.ensures.in_range;
  changes = subst (All (All IsChange)) c.all_changes.ensures c.write_changes.ensures.in_range;
}
