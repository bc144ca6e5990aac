use Rattle.std.proofs.lemmas.Result.{IfOk-weaker}
use Rattle.document_json.specs.Replaced.{replaced}
use Rattle.document_json.proofs.remaking.write_replaced.Goals as goal

pub returns-clause-text : goal.returns-clause-text
returns-clause-text c =
    IfOk-weaker c.write_members.result _ _ (λ b h. h (replaced c.args.frame.now c.args.parts.now) c.in_ok-members.ensures.members) c.write_members.ensures.text

pub returns-clause-reads_back : goal.returns-clause-reads_back
returns-clause-reads_back c =
    IfOk-weaker c.write_members.result _ _ (λ b h. h (replaced c.args.frame.now c.args.parts.now) c.in_ok-members.ensures.members) c.write_members.ensures.reads_back
