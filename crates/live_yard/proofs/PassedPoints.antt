-- Points that trains have passed.
use Rattle.std.proofs.Common.{◌≡◌, ℕ, Some, ap, ◌∙◌, arith}
use Rattle.rail_model.specs.Table.{Table}
use Rattle.live_yard.specs.Telling.{HasPassed}

-- the same places and the same point
pub passed_as : (T : Table) (j from to low high q next : ℕ) → low ≡ from → high ≡ to → q ≡ next
    → HasPassed T j from to q → HasPassed T j low high next
passed_as T j from to low high q next low_is high_is next_is passed =
    (passed.0, omega (arith, passed.1), omega (arith, passed.2), passed.3 ∙ ap (λ (x : ℕ). Some x) next_is)
