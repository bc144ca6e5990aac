-- Places as a line writes them.
use Rattle.std.specs.Prelude.{ℕ, ◌<◌, ◌^◌, List, length, All}

-- One place or more, each a number below 2 ^ 32.
pub record ArePlaces (p : List ℕ) : Type 0 where
  pub some : 0 < length p
  pub small : All (λ n. n < 2 ^ 32) p
