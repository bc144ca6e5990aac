use Rattle.std.proofs.Common.{◌≡◌, ap, arith}
use Rattle.std.proofs.lemmas.Int.{ints}
use Rattle.rail_model.specs.Table.{trains, last, place, share, count}
use Rattle.rail_model.proofs.Sums.{total_same}
use Rattle.document_facts.specs.Sections.{end_count}
use Rattle.document_facts.proofs.laws.trains_that_overfill_at_the_end_never_all_arrive.Goals as goal

pub returns : goal.returns
returns c = λ T s p s_in over legal arrived.
    let within = legal.within s s_in in
    let same : count T s p ≡ end_count T s =
    total_same (λ i. share T i s (place p i)) (λ i. share T i s (last T i)) (trains T) (λ i lt. ap (share T i s) (arrived i lt)) in
    omega (arith, ints)
