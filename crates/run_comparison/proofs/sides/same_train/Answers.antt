use Rattle.std.proofs.Common.{ap, bytes_eq, position, ◌∙◌}
use Rattle.run_comparison.proofs.sides.same_train.Goals as goal
use Rattle.run_comparison.proofs.Called.{is_called}

pub returns : goal.returns
returns c =
    let names = c.args.second.names.now.trains in
    is_called c.as_bytes.result.now names c.train_called.result c.train_called.ensures.formed.trains
    c.train_called.ensures.found c.train_called.ensures.none
    ∙ ap (λ name. position (bytes_eq name) names) (c.as_bytes.ensures.value ∙ c.train_name-name.ensures)
