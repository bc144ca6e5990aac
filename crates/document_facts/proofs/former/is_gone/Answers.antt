use Rattle.std.proofs.Common.{subst}
use Rattle.document_json.specs.Doc.{table_at}
use Rattle.rail_model.specs.Table.{section}
use Rattle.document_facts.proofs.Tests.{not_so}
use Rattle.std.specs.Prelude.{◌↔◌, IsTrue}
use Rattle.document_facts.specs.Former.{IsThere}
use Rattle.document_facts.proofs.former.is_gone.Goals as goal

pub returns : goal.returns
returns c =
    let D = c.args.doc.now in
    let t = c.args.table in
    let s = c.args.section in
    let there = subst (λ at. IsTrue c.has_there.result ↔ IsThere D t at) c.section_at.ensures c.has_there.ensures in
    let right = subst (λ T. IsTrue c.has_there.result ↔ IsThere D t (section T s)) c.table_of.ensures.table there in
    not_so (IsThere D t (section (table_at c.args.former.now t) s)) c.has_there.result right
