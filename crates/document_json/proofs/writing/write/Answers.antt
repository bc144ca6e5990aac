use Rattle.std.proofs.lemmas.Result.{IfOk-weaker}
use Rattle.document_json.proofs.Remade.{own-members}
use Rattle.document_json.proofs.writing.write.Goals as goal

pub returns-clause-text : goal.returns-clause-text
returns-clause-text c =
    let own = own-members c.args.doc.now _ _ c.version.ensures.taken c.version.ensures.version c.version.ensures.first c.version.ensures.last c.in_ok-members.ensures in
    IfOk-weaker c.write_members.result _ _ (λ b h. h c.args.doc.now own) c.write_members.ensures.text

pub returns-clause-reads_back : goal.returns-clause-reads_back
returns-clause-reads_back c =
    let own = own-members c.args.doc.now _ _ c.version.ensures.taken c.version.ensures.version c.version.ensures.first c.version.ensures.last c.in_ok-members.ensures in
    IfOk-weaker c.write_members.result _ _ (λ b h. h c.args.doc.now own) c.write_members.ensures.reads_back
