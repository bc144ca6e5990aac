use Rattle.std.proofs.Common.{◌≡◌, ap, arith}
use Rattle.std.proofs.lemmas.Int.{ints}
use Rattle.rail_model.specs.Table.{last, place, share}
use Rattle.document_facts.proofs.Extremes.{greatest_there, never_there}
use Rattle.document_facts.proofs.laws.overfilling_trains_never_come_there.Goals as goal

pub returns : goal.returns
returns c = λ T s i table s_in i_in over.
    let top = greatest_there (share T i s) 0 (last T i) in
    let near = top.1 in
    let most = top.2 in (
      top.0,
      omega arith,
      λ p legal there.
          let within = never_there T s i p table s_in i_in legal in
          let same : share T i s (place p i) ≡ share T i s top.0 = ap (share T i s) there in
          omega (arith, ints),
    )
