use Rattle.std.proofs.lemmas.Result.{IfOk-weaker}
use Rattle.document_json.specs.Migrated.{migrated}
use Rattle.document_json.proofs.MigratedLemmas.{are-migrated, differs-in-version}
use Rattle.document_json.proofs.NamedLemmas.{own-are-read}
use Rattle.document_json.proofs.remaking.migrated_members.Goals as goal

pub returns-clause-members : goal.returns-clause-members
returns-clause-members c =
    let v = c.version.ensures in
    IfOk-weaker c.members_in.result _ _
    (λ m h. are-migrated c.args.doc.now v.formed v.taken _ v.version v.first v.last _ _ c.later_version.ensures h) c.members_in.ensures

pub returns-clause-read : goal.returns-clause-read
returns-clause-read c =
    let v = c.version.ensures in
    IfOk-weaker c.members_in.result _ _
    (λ m h. own-are-read (migrated c.args.doc.now) _ (are-migrated c.args.doc.now v.formed v.taken _ v.version v.first v.last _ _ c.later_version.ensures h)) c.members_in.ensures

pub returns-clause-kept : goal.returns-clause-kept
returns-clause-kept c =
    let v = c.version.ensures in
    IfOk-weaker c.members_in.result _ _ (λ m _. differs-in-version c.args.doc.now v.formed v.taken _ v.version v.first v.last) c.members_in.ensures
