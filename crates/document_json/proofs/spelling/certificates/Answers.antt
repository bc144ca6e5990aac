use Rattle.std.proofs.Common.{◌≡◌, ◌≤◌, length, sym, ap, ◌∙◌, arith}
use Rattle.std.proofs.lemmas.List.{length-map}
use Rattle.document_json.specs.Doc.{offers_of}
use Rattle.document_json.specs.Keeps.{untimed}
use Rattle.document_json.proofs.Listed.{offer_of}
use Rattle.document_json.proofs.spelling.certificates.Goals as goal

pub spelled-requires : goal.spelled-requires
spelled-requires c =
    let few : length (offers_of c.args.doc) ≤ 16 = c.into_parts-frame.ensures.formed.tables.few in
    let offers : length (offers_of c.args.doc) ≡ length c.args.doc.tables = length-map c.args.doc.tables (λ t. offer_of (untimed t)) in
    let each = ap length c.into_parts-frame.ensures.tables ∙ length-map c.args.doc.tables untimed in
    omega (arith, few, offers, each)

pub returns-clause-ok : goal.returns-clause-ok
returns-clause-ok c = c.in_ok-found.ensures.ok c.args.doc (sym c.into_parts-frame.ensures.tables)

pub returns-clause-tables : goal.returns-clause-tables
returns-clause-tables c = c.in_ok-found.ensures.tables c.args.doc (sym c.into_parts-frame.ensures.tables)
