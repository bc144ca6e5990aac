use Rattle.std.proofs.Common.{codes, map, string_bytes, refl, rules}
use Rattle.document_shapes.specs.DocumentFound.{DocumentFinds}
use Rattle.document_shapes.specs.Readings.{ReadsList}
use Rattle.document_shapes.specs.Seen.{names_seen}
use Rattle.document_shapes.specs.Shape.{whole, text, list_of, pair}
use Rattle.document_shapes.specs.TableRead.{ReadsTable}
use Rattle.document_shapes.proofs.Agreement.{agrees-list, agrees-items, agrees-pair, agrees-text, agrees-whole}
use Rattle.document_shapes.proofs.FoundLemmas.{finds-read, reads-new, on_some, found-at, kept}
use Rattle.document_shapes.proofs.token_document.FoundDocumentFromMembers.find.Goals as goal

pub returns-in-version : goal.returns-in-version
returns-in-version c =
    on_some c.read_into.result c.read_into.ensures
    (λ h. found-at DocumentFinds c.args.name.now (codes "version") c.args.self.now (record c.args.self.now { version = c.read_into.new.field }) c.args.depth c.args.tokens.now.reader c.read_into.new.tokens.reader h.0 h.1 (search rules) h.2 h.3
    (λ ms f. record { version = finds-read h.1 ms whole (λ n. n) _ agrees-whole.reads (codes "version") c.read_into.new.field h.4; points = rw (kept h.1 ms (codes "points") (codes "version") refl) f.points; links = rw (kept h.1 ms (codes "links") (codes "version") refl) f.links; zones = rw (kept h.1 ms (codes "zones") (codes "version") refl) f.zones; trains = rw (kept h.1 ms (codes "trains") (codes "version") refl) f.trains; start = rw (kept h.1 ms (codes "start") (codes "version") refl) f.start; tables = rw (kept h.1 ms (codes "tables") (codes "version") refl) f.tables }))

pub returns-in-points : goal.returns-in-points
returns-in-points c =
    on_some c.read_into-in-points.result c.read_into-in-points.ensures
    (λ h. found-at DocumentFinds c.args.name.now (codes "points") c.args.self.now (record c.args.self.now { points = c.read_into-in-points.new.field }) c.args.depth c.args.tokens.now.reader c.read_into-in-points.new.tokens.reader h.0 h.1 (search rules) h.2 h.3
    (λ ms f. record { version = rw (kept h.1 ms (codes "version") (codes "points") refl) f.version; points = finds-read h.1 ms (list_of (pair text whole)) (λ v. map (λ p. (string_bytes p.0, p.1)) v.items) _ (agrees-list (agrees-pair agrees-text agrees-whole)).reads (codes "points") c.read_into-in-points.new.field h.4; links = rw (kept h.1 ms (codes "links") (codes "points") refl) f.links; zones = rw (kept h.1 ms (codes "zones") (codes "points") refl) f.zones; trains = rw (kept h.1 ms (codes "trains") (codes "points") refl) f.trains; start = rw (kept h.1 ms (codes "start") (codes "points") refl) f.start; tables = rw (kept h.1 ms (codes "tables") (codes "points") refl) f.tables }))

pub returns-in-links : goal.returns-in-links
returns-in-links c =
    on_some c.read_into-in-links.result c.read_into-in-links.ensures
    (λ h. found-at DocumentFinds c.args.name.now (codes "links") c.args.self.now (record c.args.self.now { links = c.read_into-in-links.new.field }) c.args.depth c.args.tokens.now.reader c.read_into-in-links.new.tokens.reader h.0 h.1 (search rules) h.2 h.3
    (λ ms f. record { version = rw (kept h.1 ms (codes "version") (codes "links") refl) f.version; points = rw (kept h.1 ms (codes "points") (codes "links") refl) f.points; links = finds-read h.1 ms (list_of (pair text text)) (λ v. map (λ l. (string_bytes l.0, string_bytes l.1)) v.items) _ (agrees-list (agrees-pair agrees-text agrees-text)).reads (codes "links") c.read_into-in-links.new.field h.4; zones = rw (kept h.1 ms (codes "zones") (codes "links") refl) f.zones; trains = rw (kept h.1 ms (codes "trains") (codes "links") refl) f.trains; start = rw (kept h.1 ms (codes "start") (codes "links") refl) f.start; tables = rw (kept h.1 ms (codes "tables") (codes "links") refl) f.tables }))

pub returns-in-zones : goal.returns-in-zones
returns-in-zones c =
    on_some c.read_into-in-zones.result c.read_into-in-zones.ensures
    (λ h. found-at DocumentFinds c.args.name.now (codes "zones") c.args.self.now (record c.args.self.now { zones = c.read_into-in-zones.new.field }) c.args.depth c.args.tokens.now.reader c.read_into-in-zones.new.tokens.reader h.0 h.1 (search rules) h.2 h.3
    (λ ms f. record { version = rw (kept h.1 ms (codes "version") (codes "zones") refl) f.version; points = rw (kept h.1 ms (codes "points") (codes "zones") refl) f.points; links = rw (kept h.1 ms (codes "links") (codes "zones") refl) f.links; zones = finds-read h.1 ms whole (λ n. n) _ agrees-whole.reads (codes "zones") c.read_into-in-zones.new.field h.4; trains = rw (kept h.1 ms (codes "trains") (codes "zones") refl) f.trains; start = rw (kept h.1 ms (codes "start") (codes "zones") refl) f.start; tables = rw (kept h.1 ms (codes "tables") (codes "zones") refl) f.tables }))

pub returns-in-trains : goal.returns-in-trains
returns-in-trains c =
    on_some c.read_into-in-trains.result c.read_into-in-trains.ensures
    (λ h. found-at DocumentFinds c.args.name.now (codes "trains") c.args.self.now (record c.args.self.now { trains = c.read_into-in-trains.new.field }) c.args.depth c.args.tokens.now.reader c.read_into-in-trains.new.tokens.reader h.0 h.1 (search rules) h.2 h.3
    (λ ms f. record { version = rw (kept h.1 ms (codes "version") (codes "trains") refl) f.version; points = rw (kept h.1 ms (codes "points") (codes "trains") refl) f.points; links = rw (kept h.1 ms (codes "links") (codes "trains") refl) f.links; zones = rw (kept h.1 ms (codes "zones") (codes "trains") refl) f.zones; trains = finds-read h.1 ms (list_of text) names_seen _ (agrees-list agrees-text).reads (codes "trains") c.read_into-in-trains.new.field h.4; start = rw (kept h.1 ms (codes "start") (codes "trains") refl) f.start; tables = rw (kept h.1 ms (codes "tables") (codes "trains") refl) f.tables }))

pub returns-in-start : goal.returns-in-start
returns-in-start c =
    on_some c.read_into-in-start.result c.read_into-in-start.ensures
    (λ h. found-at DocumentFinds c.args.name.now (codes "start") c.args.self.now (record c.args.self.now { start = c.read_into-in-start.new.field }) c.args.depth c.args.tokens.now.reader c.read_into-in-start.new.tokens.reader h.0 h.1 (search rules) h.2 h.3
    (λ ms f. record { version = rw (kept h.1 ms (codes "version") (codes "start") refl) f.version; points = rw (kept h.1 ms (codes "points") (codes "start") refl) f.points; links = rw (kept h.1 ms (codes "links") (codes "start") refl) f.links; zones = rw (kept h.1 ms (codes "zones") (codes "start") refl) f.zones; trains = rw (kept h.1 ms (codes "trains") (codes "start") refl) f.trains; start = finds-read h.1 ms (list_of whole) (λ v. v.items) _ (agrees-items agrees-whole).reads (codes "start") c.read_into-in-start.new.field h.4; tables = rw (kept h.1 ms (codes "tables") (codes "start") refl) f.tables }))

pub returns-in-tables : goal.returns-in-tables
returns-in-tables c =
    on_some c.read_into-in-tables.result c.read_into-in-tables.ensures
    (λ h. found-at DocumentFinds c.args.name.now (codes "tables") c.args.self.now (record c.args.self.now { tables = c.read_into-in-tables.new.field }) c.args.depth c.args.tokens.now.reader c.read_into-in-tables.new.tokens.reader h.0 h.1 (search rules) h.2 h.3
    (λ ms f. record { version = rw (kept h.1 ms (codes "version") (codes "tables") refl) f.version; points = rw (kept h.1 ms (codes "points") (codes "tables") refl) f.points; links = rw (kept h.1 ms (codes "links") (codes "tables") refl) f.links; zones = rw (kept h.1 ms (codes "zones") (codes "tables") refl) f.zones; trains = rw (kept h.1 ms (codes "trains") (codes "tables") refl) f.trains; start = rw (kept h.1 ms (codes "start") (codes "tables") refl) f.start; tables = reads-new h.1 ms (λ e v. ReadsList ReadsTable e v.items) (codes "tables") c.read_into-in-tables.new.field h.4 }))
