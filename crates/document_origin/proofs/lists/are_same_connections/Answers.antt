use Rattle.std.proofs.Common.{◌≡◌, length, arith}
use Rattle.document_origin.proofs.SameLists.{found_same}
use Rattle.document_origin.proofs.lists.are_same_connections.Goals as goal

pub returns : goal.returns
returns c =
    let size : length c.args.first.now ≡ length c.args.second.now = omega arith in
    found_same c.args.first.now c.args.second.now (record { train = 0; place = 0; other = 0; reached = 0 }) size (λ k lt. c.loop-i.invariant k (omega (arith, lt)))
