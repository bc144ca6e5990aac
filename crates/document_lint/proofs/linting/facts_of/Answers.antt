use Rattle.std.proofs.lemmas.Result.{IfOk-weaker}
use Rattle.document_lint.specs.Told.{HoldsOf}
use Rattle.document_lint.proofs.All.{all_found}
use Rattle.document_lint.proofs.linting.facts_of.Goals as goal

pub returns : goal.returns
returns c =
    IfOk-weaker c.into_result.result _ _ (λ facts is. all_found (HoldsOf c.args.bytes.now) c.new-found.result c.find_of.new.found c.new-found.ensures c.find_of.ensures facts is)
    c.into_result.ensures
