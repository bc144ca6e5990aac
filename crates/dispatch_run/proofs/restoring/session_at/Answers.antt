use Rattle.std.proofs.Common.{◌∙◌, subst, sym}
use Rattle.document_json.specs.Doc.{names_of}
use Rattle.move_journal.specs.Printable.{AreEnough}
use Rattle.dispatch_run.proofs.EnoughNames.{enough}
use Rattle.dispatch_run.proofs.restoring.session_at.Goals as goal

pub new-requires : goal.new-requires
new-requires c =
    let D = c.args.doc.now in
    let tables = c.in_ok-yard.yard.yard.run.tables in
    subst (λ names. AreEnough names tables) (sym c.names.ensures.names)
    (subst (AreEnough (names_of D)) (sym (c.in_ok-yard.ensures.same_tables ∙ c.requires.tables))
    (enough D c.names.ensures.formed))
