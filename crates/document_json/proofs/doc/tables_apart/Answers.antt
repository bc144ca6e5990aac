use Rattle.std.proofs.Common.{map, ◌∙◌, ap}
use Rattle.std.proofs.lemmas.Simd.{map-map}
use Rattle.document_json.specs.Keeps.{Untimed, untimed}
use Rattle.document_json.proofs.doc.tables_apart.Goals as goal

pub returns-clause-tables : goal.returns-clause-tables
returns-clause-tables c =
    c.in_ok-alone.ensures ∙ ap (map (λ (u : Untimed). u.table)) c.into_parts-frame.ensures.tables ∙ map-map (λ (u : Untimed). u.table) untimed c.args.doc.tables
