-- A step for each item of a list, up to the first refusal.
use Rattle.std.specs.Prelude.{ℕ, ◌+◌, List, [], ◌∷◌, Result, Ok}
use Rattle.rail_model.specs.Turns.{in_turn}

-- a step for each item with its number, the first of them t
abbrev pub each_from : {A B E : Type 0} → (ℕ → A → Result B E) → ℕ → List A → Result (List B) E
each_from step t [] = Ok []
each_from step t (x ∷ xs) = in_turn (step t x) (λ y. in_turn (each_from step (t + 1) xs) (λ ys. Ok (y ∷ ys)))
