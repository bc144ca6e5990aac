use Rattle.document_json.proofs.Offered.{given_on_layout}
use Rattle.call_tests.proofs.steps.is_cause_at.Goals as goal

pub new-requires-clause-points : goal.new-requires-clause-points
new-requires-clause-points c = given_on_layout c.args.doc.now c.layout.result.now c.args.tables.now c.layout.ensures.formed c.layout.ensures.layout c.requires
