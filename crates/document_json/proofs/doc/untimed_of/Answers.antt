use Rattle.std.proofs.Common.{◌≡◌, ◌∙◌, length, map, get_or, ap, arith}
use Rattle.std.specs.Prelude.{vec_len}
use Rattle.std.proofs.lemmas.List.{length-map, get_or-map}
use Rattle.document_json.specs.Doc.{doc_table}
use Rattle.document_json.specs.Keeps.{Untimed, untimed}
use Rattle.document_json.proofs.FormedDoc.{no_table}
use Rattle.document_json.proofs.doc.untimed_of.Goals as goal

pub index-requires : goal.index-requires
index-requires c =
    let own = c.doc.inside in
    let items : vec_len own.tables ≡ length own.tables.items = own.tables.ok.0 in
    let counted = ap length c.doc.invariant.0 ∙ length-map own.frame.tables untimed in
    let size = ap (λ D. length D.tables) c.doc.view_is in
    omega (arith, items, counted, size, c.requires)

found : (c : goal.After-index) → c.index.result.now ≡ untimed (doc_table c.args.doc.now c.args.table)
found c =
    let D = c.args.doc.now in
    let t = c.args.table in
    let u = c.index.result.now in
    c.index.ensures ∙ ap (λ us. get_or us t u) (c.doc.invariant.0 ∙ ap (λ D. map untimed D.tables) c.doc.view_is)
    ∙ get_or-map untimed D.tables t no_table u c.requires

pub returns-clause-table : goal.returns-clause-table
returns-clause-table c = ap (λ (u : Untimed). u.table) (found c)

pub returns-clause-nodes : goal.returns-clause-nodes
returns-clause-nodes c = ap (λ (u : Untimed). u.nodes) (found c)
