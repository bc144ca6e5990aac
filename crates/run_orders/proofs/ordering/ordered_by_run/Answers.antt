use Rattle.std.proofs.Common.{map, sym, ap, ◌∙◌, subst}
use Rattle.document_json.specs.Doc.{Doc}
use Rattle.document_json.specs.Keeps.{IsTaken}
use Rattle.document_json.specs.Migrated.{IsMigrated}
use Rattle.run_orders.proofs.ordering.ordered_by_run.Goals as goal

pub ordered_with-requires-clause-migrated : goal.ordered_with-requires-clause-migrated
ordered_with-requires-clause-migrated c =
    subst (λ (D : Doc). IsMigrated c.args.doc.now D) (sym c.in_ok-frame.ensures.frame) c.in_ok-later.ensures.kept

pub ordered_with-requires-clause-taken : goal.ordered_with-requires-clause-taken
ordered_with-requires-clause-taken c = subst IsTaken (sym c.in_ok-frame.ensures.frame) c.version-is_later.ensures.taken

pub ordered_with-requires-clause-tables : goal.ordered_with-requires-clause-tables
ordered_with-requires-clause-tables c =
    c.deref.ensures.value ∙ c.in_ok-frame.ensures.tables ∙ ap (λ (D : Doc). map (λ t. t.table) D.tables) (sym c.in_ok-frame.ensures.frame)
