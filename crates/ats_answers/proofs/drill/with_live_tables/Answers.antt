use Rattle.std.proofs.Common.{◌<◌, ℕ, length, sym, ◌∙◌, ap, subst}
use Rattle.rail_model.specs.Move.{Live}
use Rattle.document_json.specs.Doc.{Doc, IsDoc, table_at}
use Rattle.ats_answers.specs.Making.{tables_in}
use Rattle.ats_answers.proofs.drill.with_live_tables.Goals as goal

pub live_tables-requires-clause-formed : goal.live_tables-requires-clause-formed
live_tables-requires-clause-formed c = subst IsDoc (sym c.in_ok-frame.ensures.frame) c.in_ok-frame.ensures.formed

pub live_tables-requires-clause-tables : goal.live_tables-requires-clause-tables
live_tables-requires-clause-tables c = c.in_ok-frame.ensures.tables ∙ ap tables_in (sym c.in_ok-frame.ensures.frame)

pub live_tables-requires-clause-live : goal.live_tables-requires-clause-live
live_tables-requires-clause-live c =
    subst (λ (D : Doc). (t : ℕ) → t < length D.tables → Live (table_at D t)) (sym c.in_ok-frame.ensures.frame) c.requires
