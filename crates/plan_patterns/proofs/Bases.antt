-- An entry and the patterns that it rests on, one at a time, and the first pattern of a name.
use Rattle.std.proofs.Common.{◌≡◌, ℕ, suc, ◌+◌, ◌-◌, ◌<◌, List, [], ◌∷◌, map, Bool, Some, None, codes, refl, inl, inr, arith}
use Rattle.std.specs.Prelude.{find, option_map}
use Rattle.std.proofs.lemmas.Bool.{cases_Bool}
use Rattle.toml.specs.Data.{Data, Members}
use Rattle.toml.specs.View.{view}
use Rattle.toml.specs.declared.value.Value.{Value}
use Rattle.plan_patterns.specs.Expanded.{base_of, based}
use Rattle.plan_patterns.specs.Parts.{and_others, without}

-- one pattern more is rested on
pub based_more : (n step : ℕ) (patterns : List Data) (entry base : Members) → step < n → Some base ≡ base_of patterns entry
    → based (n - step) patterns entry ≡ based (n - (step + 1)) patterns (and_others (without (codes "pattern") entry) base)
based_more n step patterns entry base within found =
    let more : n - step ≡ suc (n - (step + 1)) = omega arith in
    rw (more, ← found) refl

-- an entry that rests on none stays
pub based_end : (n step : ℕ) (patterns : List Data) (entry : Members) → step < n → None ≡ base_of patterns entry → based (n - step) patterns entry ≡ entry
based_end n step patterns entry within found =
    let more : n - step ≡ suc (n - (step + 1)) = omega arith in
    rw (more, ← found) refl

pub find_view : (t : Data → Bool) (vs : List Value) → option_map view (find (λ v. t (view v)) vs) ≡ find t (map view vs)
find_view t [] = refl
find_view t (v ∷ vs) = elim (cases_Bool (t (view v))) [ inl is ↦ rw is refl | inr other ↦ rw other (find_view t vs) ]
