use Rattle.forbidden_states.proofs.Over.{over_in, in_over}
use Rattle.forbidden_states.proofs.laws.over_where_all_stay.Goals as goal

pub returns : goal.returns
returns c = λ M all s stays p at some are range. (over_in M all s stays p at are range, in_over M all s stays p at some are range)
