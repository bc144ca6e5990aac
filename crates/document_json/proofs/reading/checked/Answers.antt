use Rattle.std.proofs.Common.{◌≡◌, ◌∙◌, List, ℕ, length, sym, ap, subst, arith, Ok}
use Rattle.std.specs.Prelude.{vec_len}
use Rattle.rail_model.specs.Layout.{point_names}
use Rattle.rail_model.specs.Names.{Names}
use Rattle.rail_model.proofs.Firsts.{Answers-err}
use Rattle.document_shapes.specs.Seen.{seen_document}
use Rattle.document_json.specs.Keeps.{HasParts, doc_of_parts}
use Rattle.document_json.specs.Reading.{doc_from}
use Rattle.document_json.specs.declared.refused.DocRefused.TheVariants.{Memory}
use Rattle.document_json.proofs.FormedDoc.{formed-from}
use Rattle.document_json.proofs.Taken.{is-tabled, some-table, doc-refused, doc-made}
use Rattle.document_json.proofs.reading.checked.Goals as goal

pub index-requires : goal.index-requires
index-requires c =
    let m = seen_document c.args.members in
    let tabled = is-tabled m _ _ _ _ c.in_ok-layout.ensures c.in_ok-trains.ensures c.in_ok-tables.ensures c.in_ok-tables-2.ensures.made in
    let some = some-table m _ _ _ _ c.in_ok-tables-2.ensures.each_timed tabled in
    let items : vec_len c.in_ok-tables-2.tables ≡ length c.in_ok-tables-2.tables.items = c.in_ok-tables-2.tables.ok.0 in
    omega (arith, some, items)

pub returns-in_err-start : goal.returns-in_err-start
returns-in_err-start c =
    let m = seen_document c.args.members in
    let tabled = is-tabled m _ _ _ _ c.in_ok-layout.ensures c.in_ok-trains.ensures c.in_ok-tables.ensures c.in_ok-tables-2.ensures.made in
    Answers-err Memory (λ d. d) c.from_residual-in_err-start.result (doc_from m) c.in_err-start.field-0.0 c.from_residual-in_err-start.ensures.1
    (doc-refused m _ _ _ _ c.in_ok-tables-2.ensures.each_timed tabled c.table.result.now c.index.result.now c.in_err-start.field-0.0 c.table.ensures c.index.ensures c.in_err-start.ensures.start)

made : (c : goal.After-from-times)
    → doc_from (seen_document c.args.members) ≡ Ok (doc_of_parts c.args.members.version c.in_ok-layout.layout c.in_ok-names.names c.in_ok-tables-2.tables.items c.in_ok-tables-2.times.items c.in_ok-start.start)
made c =
    let m = seen_document c.args.members in
    let tabled = is-tabled m _ _ _ _ c.in_ok-layout.ensures c.in_ok-trains.ensures c.in_ok-tables.ensures c.in_ok-tables-2.ensures.made in
    doc-made m _ _ _ _ c.in_ok-tables-2.ensures.each_timed tabled c.in_ok-names.names c.table.result.now c.index.result.now c.in_ok-start.start
    c.in_ok-names.ensures c.table.ensures c.index.ensures c.in_ok-start.ensures.start

pub new-requires : goal.new-requires
new-requires c =
    let version = c.args.members.version in
    let L = c.in_ok-layout.layout in
    let N = c.in_ok-names.names in
    let ts = c.in_ok-tables-2.tables.items in
    let start = c.in_ok-start.start in
    let formed = formed-from (seen_document c.args.members) (doc_of_parts version L N ts c.in_ok-tables-2.times.items start) c.requires (made c) in
    let named = c.in_ok-names.ensures ∙ ap (λ (n : Names). record { points = point_names L; trains = n.trains }) (sym c.in_ok-names.ensures) in
    subst (λ (times : List (List (List ℕ))). HasParts version L N ts times start) (sym c.from-times.ensures)
    (record { first = formed.first; last = formed.last; named = named; each_timed = c.in_ok-tables-2.ensures.each_timed; is = formed.is; taken = formed.taken })

pub returns : goal.returns
returns c =
    let parts = doc_of_parts c.args.members.version c.in_ok-layout.layout c.in_ok-names.names c.in_ok-tables-2.tables.items in
    made c.before.before.before.before ∙ ap (λ (times : List (List (List ℕ))). Ok (parts times c.in_ok-start.start)) (sym c.from-times.ensures) ∙ ap Ok (sym c.in_ok-new.ensures)
