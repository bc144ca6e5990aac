use Rattle.std.proofs.Common.{codes, map, refl, rules}
use Rattle.document_shapes.specs.Parts.{section, connection, node}
use Rattle.document_shapes.specs.Seen.{names_seen}
use Rattle.document_shapes.specs.Shape.{whole, truth, text, list_of}
use Rattle.document_shapes.specs.TableFound.{TableFinds}
use Rattle.document_shapes.proofs.Agreement.{agrees-list, agrees-items, agrees-text, agrees-truth, agrees-whole, agrees-node, agrees-connection, agrees-section, agrees-train_times}
use Rattle.document_shapes.proofs.FoundLemmas.{finds-read, on_some, found-at, kept}
use Rattle.document_shapes.proofs.token_table.FoundTableFromMembers.find.Goals as goal

pub returns-in-missions : goal.returns-in-missions
returns-in-missions c =
    on_some c.read_into.result c.read_into.ensures
    (λ h. found-at TableFinds c.args.name.now (codes "missions") c.args.self.now (record c.args.self.now { missions = c.read_into.new.field }) c.args.depth c.args.tokens.now.reader c.read_into.new.tokens.reader h.0 h.1 (search rules) h.2 h.3
    (λ ms f. record { missions = finds-read h.1 ms (list_of (list_of text)) (λ v. map names_seen v.items) _ (agrees-list (agrees-list agrees-text)).reads (codes "missions") c.read_into.new.field h.4; exits = rw (kept h.1 ms (codes "exits") (codes "missions") refl) f.exits; sections = rw (kept h.1 ms (codes "sections") (codes "missions") refl) f.sections; connections = rw (kept h.1 ms (codes "connections") (codes "missions") refl) f.connections; certificate = rw (kept h.1 ms (codes "certificate") (codes "missions") refl) f.certificate; times = rw (kept h.1 ms (codes "times") (codes "missions") refl) f.times; after = rw (kept h.1 ms (codes "after") (codes "missions") refl) f.after }))

pub returns-in-exits : goal.returns-in-exits
returns-in-exits c =
    on_some c.read_into-in-exits.result c.read_into-in-exits.ensures
    (λ h. found-at TableFinds c.args.name.now (codes "exits") c.args.self.now (record c.args.self.now { exits = c.read_into-in-exits.new.field }) c.args.depth c.args.tokens.now.reader c.read_into-in-exits.new.tokens.reader h.0 h.1 (search rules) h.2 h.3
    (λ ms f. record { missions = rw (kept h.1 ms (codes "missions") (codes "exits") refl) f.missions; exits = finds-read h.1 ms (list_of truth) (λ v. v.items) _ (agrees-items agrees-truth).reads (codes "exits") c.read_into-in-exits.new.field h.4; sections = rw (kept h.1 ms (codes "sections") (codes "exits") refl) f.sections; connections = rw (kept h.1 ms (codes "connections") (codes "exits") refl) f.connections; certificate = rw (kept h.1 ms (codes "certificate") (codes "exits") refl) f.certificate; times = rw (kept h.1 ms (codes "times") (codes "exits") refl) f.times; after = rw (kept h.1 ms (codes "after") (codes "exits") refl) f.after }))

pub returns-in-sections : goal.returns-in-sections
returns-in-sections c =
    on_some c.read_into-in-sections.result c.read_into-in-sections.ensures
    (λ h. found-at TableFinds c.args.name.now (codes "sections") c.args.self.now (record c.args.self.now { sections = c.read_into-in-sections.new.field }) c.args.depth c.args.tokens.now.reader c.read_into-in-sections.new.tokens.reader h.0 h.1 (search rules) h.2 h.3
    (λ ms f. record { missions = rw (kept h.1 ms (codes "missions") (codes "sections") refl) f.missions; exits = rw (kept h.1 ms (codes "exits") (codes "sections") refl) f.exits; sections = finds-read h.1 ms (list_of section) (λ v. v.items) _ (agrees-items agrees-section).reads (codes "sections") c.read_into-in-sections.new.field h.4; connections = rw (kept h.1 ms (codes "connections") (codes "sections") refl) f.connections; certificate = rw (kept h.1 ms (codes "certificate") (codes "sections") refl) f.certificate; times = rw (kept h.1 ms (codes "times") (codes "sections") refl) f.times; after = rw (kept h.1 ms (codes "after") (codes "sections") refl) f.after }))

pub returns-in-connections : goal.returns-in-connections
returns-in-connections c =
    on_some c.read_into-in-connections.result c.read_into-in-connections.ensures
    (λ h. found-at TableFinds c.args.name.now (codes "connections") c.args.self.now (record c.args.self.now { connections = c.read_into-in-connections.new.field }) c.args.depth c.args.tokens.now.reader c.read_into-in-connections.new.tokens.reader h.0 h.1 (search rules) h.2 h.3
    (λ ms f. record { missions = rw (kept h.1 ms (codes "missions") (codes "connections") refl) f.missions; exits = rw (kept h.1 ms (codes "exits") (codes "connections") refl) f.exits; sections = rw (kept h.1 ms (codes "sections") (codes "connections") refl) f.sections; connections = finds-read h.1 ms (list_of connection) (λ v. v.items) _ (agrees-items agrees-connection).reads (codes "connections") c.read_into-in-connections.new.field h.4; certificate = rw (kept h.1 ms (codes "certificate") (codes "connections") refl) f.certificate; times = rw (kept h.1 ms (codes "times") (codes "connections") refl) f.times; after = rw (kept h.1 ms (codes "after") (codes "connections") refl) f.after }))

pub returns-in-certificate : goal.returns-in-certificate
returns-in-certificate c =
    on_some c.read_into-in-certificate.result c.read_into-in-certificate.ensures
    (λ h. found-at TableFinds c.args.name.now (codes "certificate") c.args.self.now (record c.args.self.now { certificate = c.read_into-in-certificate.new.field }) c.args.depth c.args.tokens.now.reader c.read_into-in-certificate.new.tokens.reader h.0 h.1 (search rules) h.2 h.3
    (λ ms f. record { missions = rw (kept h.1 ms (codes "missions") (codes "certificate") refl) f.missions; exits = rw (kept h.1 ms (codes "exits") (codes "certificate") refl) f.exits; sections = rw (kept h.1 ms (codes "sections") (codes "certificate") refl) f.sections; connections = rw (kept h.1 ms (codes "connections") (codes "certificate") refl) f.connections; certificate = finds-read h.1 ms (list_of node) (λ v. v.items) _ (agrees-items agrees-node).reads (codes "certificate") c.read_into-in-certificate.new.field h.4; times = rw (kept h.1 ms (codes "times") (codes "certificate") refl) f.times; after = rw (kept h.1 ms (codes "after") (codes "certificate") refl) f.after }))

pub returns-in-times : goal.returns-in-times
returns-in-times c =
    on_some c.read_into-in-times.result c.read_into-in-times.ensures
    (λ h. found-at TableFinds c.args.name.now (codes "times") c.args.self.now (record c.args.self.now { times = c.read_into-in-times.new.field }) c.args.depth c.args.tokens.now.reader c.read_into-in-times.new.tokens.reader h.0 h.1 (search rules) h.2 h.3
    (λ ms f. record { missions = rw (kept h.1 ms (codes "missions") (codes "times") refl) f.missions; exits = rw (kept h.1 ms (codes "exits") (codes "times") refl) f.exits; sections = rw (kept h.1 ms (codes "sections") (codes "times") refl) f.sections; connections = rw (kept h.1 ms (codes "connections") (codes "times") refl) f.connections; certificate = rw (kept h.1 ms (codes "certificate") (codes "times") refl) f.certificate; times = finds-read h.1 ms (list_of (list_of whole)) (λ v. v.items) _ (agrees-items agrees-train_times).reads (codes "times") c.read_into-in-times.new.field h.4; after = rw (kept h.1 ms (codes "after") (codes "times") refl) f.after }))

pub returns-in-after : goal.returns-in-after
returns-in-after c =
    on_some c.read_into-in-after.result c.read_into-in-after.ensures
    (λ h. found-at TableFinds c.args.name.now (codes "after") c.args.self.now (record c.args.self.now { after = c.read_into-in-after.new.field }) c.args.depth c.args.tokens.now.reader c.read_into-in-after.new.tokens.reader h.0 h.1 (search rules) h.2 h.3
    (λ ms f. record { missions = rw (kept h.1 ms (codes "missions") (codes "after") refl) f.missions; exits = rw (kept h.1 ms (codes "exits") (codes "after") refl) f.exits; sections = rw (kept h.1 ms (codes "sections") (codes "after") refl) f.sections; connections = rw (kept h.1 ms (codes "connections") (codes "after") refl) f.connections; certificate = rw (kept h.1 ms (codes "certificate") (codes "after") refl) f.certificate; times = rw (kept h.1 ms (codes "times") (codes "after") refl) f.times; after = finds-read h.1 ms whole (λ n. n) _ agrees-whole.reads (codes "after") c.read_into-in-after.new.field h.4 }))
