use Rattle.std.proofs.Common.{◌∙◌, ◌<◌, length, arith}
use Rattle.document_json.specs.Doc.{doc_table, names_of}
use Rattle.document_json.specs.Members.{table_members_in}
use Rattle.document_json.specs.Replaced.{exchanged}
use Rattle.document_json.proofs.Remade.{member-more, member-all}
use Rattle.document_json.proofs.remaking.replaced_tables.Goals as goal

pub loop-number-preserved : goal.loop-number-preserved
loop-number-preserved c =
    let D = c.args.frame.now in
    let i = c.loop-number.number in
    let lt : i < length D.tables = omega (arith, c.loop-number-test.true, c.tables-number-end.ensures.count) in
    let part = c.index-parts-number.result in
    member-more exchanged D c.args.parts.now c.requires.one_each _ _ c.in_ok-table_with.field-0 i part lt c.index-parts-number.is
    (c.in_ok-table_with.ensures
    ∙ λ j. table_members_in (c.version.ensures.version j) (names_of D) (record (doc_table D i) { table = part.0; nodes = c.as_slice.ensures.nodes j }))
    c.in_ok-push.ensures.items c.loop-number.invariant

pub returns : goal.returns
returns c =
    member-all exchanged c.args.frame.now c.args.parts.now c.requires.one_each _ c.loop-number.number
    (omega (arith, c.loop-number-test.false, c.tables-number-end.ensures.count)) c.loop-number.invariant
