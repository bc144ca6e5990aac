-- The points that an item of a route stands for, and how many ways there are.
use Rattle.std.proofs.Common.{◌≡◌, ℕ, zero, suc, ◌-◌, List, [], ◌∷◌, length, refl, ap, arith}
use Rattle.std.specs.Prelude.{option_and_then, unwrap_or}
use Rattle.std.specs.List.{flat_map}
use Rattle.toml.specs.Data.{Data, Members, as_str}
use Rattle.toml.specs.View.{members_view}
use Rattle.toml.proofs.Views.{Entry}
use Rattle.plan_patterns.specs.Ways.{along, behind, count_of, points_of}

-- without steps an item is itself
pub points_end : (steps : ℕ) (ways : Members) (d : Data) → steps ≡ 0 → d ∷ [] ≡ points_of steps ways d
points_end steps ways d none = rw none refl

-- with a step more it is what its way's items are
pub points_more : (steps : ℕ) (ways : Members) (d : Data) → (steps ≡ 0 → ⊥)
    → unwrap_or (option_and_then (along ways (flat_map (points_of (steps - 1) ways))) (option_and_then (behind 64) (as_str d))) (d ∷ []) ≡ points_of steps ways d
points_more zero ways d some = absurd (some refl)
points_more (suc steps) ways d some = let less : suc steps - 1 ≡ steps = omega arith in rw less refl

pub count_view : (es : List Entry) → count_of (members_view es) ≡ length es
count_view [] = refl
count_view (e ∷ es) = ap suc (count_view es)
