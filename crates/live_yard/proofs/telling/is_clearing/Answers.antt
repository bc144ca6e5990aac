use Rattle.std.proofs.Common.{◌≡◌, ℕ, ◌+◌, ◌≤◌, ℤ, pos, negsuc, ◌+ℤ◌, ◌<ℤ◌, ◌≤ℤ◌, to_z, of_z, w32, IsTrue, arith, ap}
use Rattle.std.proofs.Common.{◌∙◌}
use Rattle.std.specs.Int.Signed.{lt_z}
use Rattle.std.proofs.lemmas.Int.{ints}
use Rattle.rail_model.specs.Table.{place, change}
use Rattle.rail_model.proofs.Shares.{share_next, share_bounds}
use Rattle.live_yard.proofs.telling.is_clearing.Goals as goal

-- a count above the limit, as the program's test says it
is_above : (l n : ℕ) (m : ℤ) → l ≤ 128 → n ≤ 128 → negsuc 4 ≤ℤ m → m ≤ℤ pos 4 → pos l <ℤ (pos n +ℤ m)
    → IsTrue (lt_z (to_z w32 l) (to_z w32 (of_z w32 (to_z w32 n +ℤ to_z w32 (of_z w32 m)))))
is_above l n m low few not_below not_above over = grind (arith, ints)

pub overflow_add-result : goal.overflow_add-result
overflow_add-result c =
    let T = c.args.table.now in
    let i = c.args.train in
    let s = c.args.section in
    let p = c.args.state.now in
    let table = c.taken_of-taken.ensures.formed in
    let here = share_bounds T i s (place p i) table c.requires.train c.requires.section (omega arith) in
    let there = share_bounds T i s (place p i + 1) table c.requires.train c.requires.section (omega arith) in
    let next = share_next T i s (place p i) in
    let few = table.few_trains in
    let small = c.taken_of-taken.ensures.small in
    let more : c.change_at-more.result ≡ change T i s (place p i + 1) =
    c.change_at-more.ensures.change ∙ ap (change T i s) c.requires.next.0 in
    grind (arith, ints)

pub returns : goal.returns
returns c =
    let T = c.args.table.now in
    let i = c.args.train in
    let s = c.args.section in
    let p = c.args.state.now in
    let table = c.taken_of-taken.ensures.formed in
    let here = share_bounds T i s (place p i) table c.requires.train c.requires.section (omega arith) in
    let there = share_bounds T i s (place p i + 1) table c.requires.train c.requires.section (omega arith) in
    let next = share_next T i s (place p i) in
    let few = table.few_trains in
    let small = c.taken_of-taken.ensures.small in
    let taken_is = c.taken_of-taken.ensures.taken in
    let low = (table.sections s c.requires.section).low_limit in
    let more : c.change_at-more.result ≡ change T i s (place p i + 1) =
    c.change_at-more.ensures.change ∙ ap (change T i s) c.requires.next.0 in
    let positive = c.if-more-le0.false in (
      λ e. (c.requires.section, grind (arith, ints), grind (arith, ints)),
      λ clearing.
          is_above c.limit_of-limit.result c.taken_of-taken.result c.change_at-more.result
          (omega (arith, c.limit_of-limit.ensures.limit)) (omega (arith, small)) (grind (arith, ints))
          (grind (arith, ints))
          (let over = clearing.2 in let limit_is = c.limit_of-limit.ensures.limit in
          omega (arith, ints, over, limit_is, more, taken_is)),
    )
