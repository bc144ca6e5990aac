use Rattle.std.proofs.Common.{◌≡◌, ◌∙◌, codes, Some, ap, sym, subst, rules}
use Rattle.document_shapes.specs.Parts.{section}
use Rattle.document_shapes.specs.SectionFound.{SectionFinds}
use Rattle.document_shapes.specs.Shape.{whole, change, list_of}
use Rattle.document_shapes.specs.Taken.{Finds}
use Rattle.document_shapes.proofs.FoundLemmas.{takes-found}
use Rattle.document_shapes.proofs.FoundParts.{section-found}
use Rattle.document_shapes.proofs.token_parts.SectionFromTokens.from_tokens.Goals as goal

pub returns : goal.returns
returns c =
    let found = c.in_ok-found.found in
    let limit : found.limit ≡ Some c.in_ok-limit.limit = search rules in
    let changes : found.changes ≡ Some c.in_ok-changes.changes = search rules in
    takes-found SectionFinds (λ d s. section d ≡ Some s) found c.new.result
    (λ ms h. section-found ms c.in_ok-limit.limit c.in_ok-changes.changes (subst (Finds whole (λ n. n) (codes "limit") ms) limit h.limit)
    (subst (Finds (list_of (list_of change)) (λ v. v.items) (codes "changes") ms) changes h.changes) ∙ ap Some (sym c.new.ensures))
    c.args.depth c.args.tokens.now.reader c.object.new.tokens.reader c.in_ok-found.ensures
