use Rattle.std.proofs.Common.{codes, refl, rules}
use Rattle.document_shapes.specs.SectionFound.{SectionFinds}
use Rattle.document_shapes.specs.Shape.{whole, change, list_of}
use Rattle.document_shapes.proofs.Agreement.{agrees-items, agrees-whole, agrees-changes}
use Rattle.document_shapes.proofs.FoundLemmas.{finds-read, on_some, found-at, kept}
use Rattle.document_shapes.proofs.token_parts.FoundSectionFromMembers.find.Goals as goal

pub returns-in-limit : goal.returns-in-limit
returns-in-limit c =
    on_some c.read_into.result c.read_into.ensures
    (λ h. found-at SectionFinds c.args.name.now (codes "limit") c.args.self.now (record c.args.self.now { limit = c.read_into.new.field }) c.args.depth c.args.tokens.now.reader c.read_into.new.tokens.reader h.0 h.1 (search rules) h.2 h.3
    (λ ms f. record { limit = finds-read h.1 ms whole (λ n. n) _ agrees-whole.reads (codes "limit") c.read_into.new.field h.4; changes = rw (kept h.1 ms (codes "changes") (codes "limit") refl) f.changes }))

pub returns-in-changes : goal.returns-in-changes
returns-in-changes c =
    on_some c.read_into-in-changes.result c.read_into-in-changes.ensures
    (λ h. found-at SectionFinds c.args.name.now (codes "changes") c.args.self.now (record c.args.self.now { changes = c.read_into-in-changes.new.field }) c.args.depth c.args.tokens.now.reader c.read_into-in-changes.new.tokens.reader h.0 h.1 (search rules) h.2 h.3
    (λ ms f. record { limit = rw (kept h.1 ms (codes "limit") (codes "changes") refl) f.limit; changes = finds-read h.1 ms (list_of (list_of change)) (λ v. v.items) _ (agrees-items agrees-changes).reads (codes "changes") c.read_into-in-changes.new.field h.4 }))
