-- Stays by the first one and the later ones.
use Rattle.std.proofs.Common.{◌≡◌, ◌-◌, ◌≤◌, List, [], ◌∷◌, length, take, drop, arith, subst, sym, inl, inr}
use Rattle.std.specs.Prelude.{slice_index_or}
use Rattle.std.proofs.lemmas.List.{take_all}
use Rattle.forbidden_states.specs.Forbid.{Stay}
use Rattle.state_core.specs.Trap.{IsAmong}

-- the first stay
abbrev pub first_of : List Stay → Stay
first_of b = slice_index_or b 0 (record { train = 0; range = record { lo = 0; hi = 0 } })

-- what is so of the first one and of each later one is so of each
pub each_among : (P : Stay → Type 0) (b : List Stay) (t : Stay) → 1 ≤ length b → t ≡ slice_index_or b 0 t → P t →
    ((s : Stay) → IsAmong (take (length b - 1) (drop 1 b)) s → P s) → (s : Stay) → IsAmong b s → P s
each_among P [] t some is own each s a = absurd (omega arith)
each_among P (v ∷ later) t some is own each s a = elim a [
  | inl e ↦ subst P e (subst P is own)
  | inr h ↦ each s (subst (λ xs. IsAmong xs s) (sym (take_all (length (v ∷ later) - 1) later (omega arith))) h)
]
