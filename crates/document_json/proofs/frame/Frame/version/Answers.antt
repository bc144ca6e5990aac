use Rattle.std.proofs.Common.{subst}
use Rattle.document_json.specs.Keeps.{IsTaken}
use Rattle.document_json.proofs.frame.Frame.version.Goals as goal

pub returns-clause-taken : goal.returns-clause-taken
returns-clause-taken c = subst IsTaken c.self.view_is c.self.invariant.0.taken
