-- Drawn numbers: each is computed of the one before it.
use Rattle.std.specs.Prelude.{ℕ, zero, suc, ◌+◌, ◌*◌, ◌%◌, List, map}
use Rattle.rail_model.specs.Checks.{below}

-- the number drawn after x
abbrev pub next_draw : ℕ → ℕ
next_draw x = (75 * x + 74) % 65537

-- the n-th number drawn after x
abbrev pub draw : ℕ → ℕ → ℕ
draw zero x = x
draw (suc n) x = next_draw (draw n x)

-- the next n numbers drawn after x
abbrev pub draws : ℕ → ℕ → List ℕ
draws n x = map (λ k. draw (k + 1) x) (below n)

-- what is drawn before the first number of a seed
abbrev pub drawn_of : ℕ → ℕ
drawn_of seed = seed % 65537
