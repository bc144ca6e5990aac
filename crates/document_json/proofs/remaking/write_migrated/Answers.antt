use Rattle.std.proofs.lemmas.Result.{IfOk-weaker}
use Rattle.document_json.specs.Migrated.{migrated}
use Rattle.document_json.proofs.remaking.write_migrated.Goals as goal

pub returns-clause-text : goal.returns-clause-text
returns-clause-text c = IfOk-weaker c.write_members.result _ _ (λ b h. h (migrated c.args.doc.now) c.in_ok-members.ensures.members) c.write_members.ensures.text

pub returns-clause-reads_back : goal.returns-clause-reads_back
returns-clause-reads_back c =
    IfOk-weaker c.write_members.result _ _ (λ b h. h (migrated c.args.doc.now) c.in_ok-members.ensures.members) c.write_members.ensures.reads_back

pub returns-clause-kept : goal.returns-clause-kept
returns-clause-kept c = IfOk-weaker c.write_members.result _ _ (λ b _. c.in_ok-members.ensures.kept) c.write_members.ensures.text
