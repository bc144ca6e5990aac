-- A train's share one place later.
use Rattle.std.proofs.Common.{◌≡◌, ℕ, ◌+◌, ◌<◌, ◌≤◌, ℤ, pos, ◌+ℤ◌, ◌≤ℤ◌, length, arith}
use Rattle.std.proofs.lemmas.Int.{ints}
use Rattle.rail_model.specs.Table.{Table, IsTable, trains, last, share, change}
use Rattle.rail_model.proofs.Shares.{share_next, share_bounds}

-- The share of train i at a place, which is 0 to 4.
pub record IsShareAt (T : Table) (i s k : ℕ) (there : ℤ) : Type 0 where
  pub share_is : there ≡ share T i s k
  pub low : pos 0 ≤ℤ there
  pub high : there ≤ℤ pos 4

pub stepped : (T : Table) (i s k : ℕ) (here by : ℤ) → IsTable T → i < trains T → s < length T.sections → k + 1 ≤ last T i →
    here ≡ share T i s k → by ≡ change T i s (k + 1) → IsShareAt T i s (k + 1) (here +ℤ by)
stepped T i s k here by table i_in s_in k_in here_is by_is =
    let next = share_next T i s k in
    let bounds = share_bounds T i s (k + 1) table i_in s_in k_in in
    record {
      share_is = omega (arith, ints, next, here_is, by_is);
      low = omega (arith, ints, next, here_is, by_is, bounds.0);
      high = omega (arith, ints, next, here_is, by_is, bounds.1);
    }
