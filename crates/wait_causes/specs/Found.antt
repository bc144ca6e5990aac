-- The causes of waits among those of a run.
use Rattle.std.specs.Prelude.{ℕ, List, Option, Bool, ◌==◌, ◌&&◌, find, option_and_then, option_map, string_bytes}
use Rattle.wait_causes.specs.declared.wait.Wait.{Wait}

-- whether a wait is the one of train i that ends at a tick
abbrev pub ends_at : ℕ → ℕ → Wait → Bool
ends_at i tick w = (w.train == i) && (w.leaves == tick)

-- what train i waits for that leaves at a tick: the cause of its first wait that ends there, if one is known
abbrev pub cause_of : List Wait → ℕ → ℕ → Option (List ℕ)
cause_of waits i tick = option_and_then (λ w. option_map string_bytes w.cause) (find (ends_at i tick) waits)
