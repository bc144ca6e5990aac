use Rattle.std.proofs.Common.{◌≡◌, [], length, arith}
use Rattle.document_origin.proofs.SameLists.{found_same}
use Rattle.document_origin.proofs.lists.are_same_trains.Goals as goal

pub returns : goal.returns
returns c =
    let few = c.trains-i-end.ensures.formed.few_trains in
    let size : length c.args.first.now.trains ≡ length c.args.second.now.trains = omega arith in
    found_same c.args.first.now.trains c.args.second.now.trains [] size (λ k lt. c.loop-i.invariant k (omega (arith, lt, few)))
