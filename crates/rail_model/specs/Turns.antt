-- Refusals in their order: the first one that there is, or else the value.
use Rattle.std.specs.Prelude.{◌≡◌, ◌⊎◌, ℕ, zero, suc, List, [], ◌∷◌, Option, Some, None, Result, Ok, Err, MatchResult}
use Rattle.std.specs.Option.{option_or}

-- the first refusal of a list of them, each of which there may be or not
abbrev pub first_of : {E : Type 0} → List (Option E) → Option E
first_of [] = None
first_of (r ∷ rs) = option_or r (first_of rs)

-- the first refusal of f 0, f 1, .., f (n - 1)
abbrev pub first_below : {E : Type 0} → ℕ → (ℕ → Option E) → Option E
first_below zero f = None
first_below (suc n) f = option_or (first_below n f) (f n)

-- the value, unless there is a refusal
abbrev pub unless : {A E : Type 0} → Option E → A → Result A E
unless None a = Ok a
unless (Some e) a = Err e

-- what comes next, unless this is refused
abbrev pub in_turn : {A B E : Type 0} → Result A E → (A → Result B E) → Result B E
in_turn (Ok a) next = next a
in_turn (Err e) next = Err e

-- The call answers what is wanted, as `see` shows it, or out of memory.
abbrev pub AnswersAs : {A B E : Type 0} → E → (A → B) → Result A E → Result B E → Type 0
AnswersAs memory see result wanted = MatchResult result (λ a. wanted ≡ Ok (see a)) (λ e. (e ≡ memory) ⊎ (wanted ≡ Err e))
