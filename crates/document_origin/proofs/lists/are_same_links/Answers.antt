use Rattle.std.proofs.Common.{◌≡◌, length, arith}
use Rattle.document_origin.proofs.SameLists.{found_same}
use Rattle.document_origin.proofs.lists.are_same_links.Goals as goal

pub returns : goal.returns
returns c =
    let size : length c.args.first.now ≡ length c.args.second.now = omega arith in
    found_same c.args.first.now c.args.second.now (record { first = 0; second = 0 }) size (λ k lt. c.loop-i.invariant k (omega (arith, lt)))
