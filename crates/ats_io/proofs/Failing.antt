-- Sinks in memory that have failed, and go on.
use Rattle.std.proofs.Common.{◌≡◌, ◌⊎◌, ℕ, ◌<◌, List, ◌++◌, length, sym, ap, subst, arith, length-append, inl, inr}
use Rattle.ats_io.specs.Memory.{Plan, HasMade, IsFull, after_pass}

-- after a write that was answered, what has failed before is still due to its plan or to its room
pub still_due : (plan new : Plan) (taken more grown : List ℕ) → new ≡ after_pass plan → grown ≡ taken ++ more
    → (0 < plan.faults → HasMade plan.fails plan.call ⊎ IsFull taken) → 0 < new.faults → HasMade new.fails new.call ⊎ IsFull grown
still_due plan new taken more grown passed grew due =
    subst (λ (p : Plan). 0 < p.faults → HasMade p.fails p.call ⊎ IsFull grown) (sym passed)
    (λ failed. elim (due failed) [
      | inl made ↦ inl (made.0, made.1, omega (arith, made.2))
      | inr full ↦ inr (omega (arith, full, ap length grew, length-append taken more))
    ])
