use Rattle.std.proofs.Common.{sym, subst}
use Rattle.std.proofs.lemmas.Result.{IfOk-weaker}
use Rattle.document_json.specs.Migrated.{migrated, IsMigrated}
use Rattle.document_json.proofs.renewing.migrate.Goals as goal

pub returns-clause-document : goal.returns-clause-document
returns-clause-document c = IfOk-weaker c.renewed.result _ _ (λ d h. h (migrated c.args.doc.now) c.in_ok-migrated_members.ensures.members) c.renewed.ensures

pub returns-clause-kept : goal.returns-clause-kept
returns-clause-kept c =
    let D = c.args.doc.now in
    IfOk-weaker c.renewed.result _ _
    (λ d h. subst (IsMigrated D) (sym (h (migrated D) c.in_ok-migrated_members.ensures.members)) c.in_ok-migrated_members.ensures.kept) c.renewed.ensures
