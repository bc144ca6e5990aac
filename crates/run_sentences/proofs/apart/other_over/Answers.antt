use Rattle.std.proofs.Common.{◌≡◌, ◌<◌, pos, ◌+ℤ◌, ◌<ℤ◌, ◌∙◌, ap, arith}
use Rattle.std.proofs.lemmas.Int.{ints}
use Rattle.rail_model.specs.Table.{limit, place, share, trains}
use Rattle.run_sentences.proofs.NeverBoth.{pass_a_limit}
use Rattle.run_sentences.proofs.apart.other_over.Goals as goal

pub returns-then-share-share_at : goal.returns-then-share-share_at
returns-then-share-share_at c =
    let T = c.args.table.now in
    let s = c.args.section in
    let i = c.args.first in
    let j = c.loop-second.second in
    let at = c.args.at.now in
    let j_in : j < trains T = omega (arith, c.loop-second-test.true, c.trains_of-second-end.ensures.count) in
    let formed = c.share_at.ensures.formed.sections s c.requires.section in
    let i_place = c.requires.in_range i c.requires.first in
    let j_place = c.requires.in_range j j_in in
    let first_share : c.share_at-share.result ≡ share T i s (place at i) = c.share_at-share.ensures.share ∙ ap (share T i s) c.place.ensures in
    let second_share : c.share_at.result ≡ share T j s (place at j) = c.share_at.ensures.share ∙ ap (share T j s) c.place-in-loop-second.ensures in
    let over : pos (limit T s) <ℤ (share T i s (place at i) +ℤ share T j s (place at j)) =
    omega (
      arith,
      ints,
      c.if-share-share_at.true,
      c.limit_of-limit.ensures.limit,
      first_share,
      second_share,
      formed.low_limit,
      formed.not_below i (place at i) c.requires.first i_place,
      formed.not_above i (place at i) c.requires.first i_place,
      formed.not_below j (place at j) j_in j_place,
      formed.not_above j (place at j) j_in j_place,
    ) in
    pass_a_limit T s at i j c.requires.section c.loop-second.invariant j_in over
