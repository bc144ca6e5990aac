use Rattle.std.proofs.Common.{arith}
use Rattle.move_claim.proofs.claims.place_after.Goals as goal

pub overflow_add-claim : goal.overflow_add-claim
overflow_add-claim c =
    let train = c.requires.claim.train c.requires.some in
    let within = c.requires.claim.within c.requires.some in
    let few = (c.last_of.ensures.formed.missions c.args.claim.train train).few_places in
    omega (arith, c.requires.steps)
