-- Right lines answer each table that was tried.
use Rattle.std.proofs.Common.{◌≡◌, ℕ, zero, suc, ◌-◌, ◌<◌, ◌≤◌, List, [], ◌∷◌, Some, refl, ap, ◌∙◌, arith, inl, inr}
use Rattle.std.proofs.Common.{lit<}
use Rattle.std.specs.Prelude.{slice_get}
use Rattle.std.proofs.lemmas.Bool.{cases_eq}
use Rattle.rail_model.specs.declared.types.Line.{Line}
use Rattle.rail_model.specs.declared.types.Line.TheVariants.{Move, Table, KeptDiffers, KeptOver}
use Rattle.rail_model.specs.Journal.{IsRight, after_line, after_lines}
use Rattle.rail_model.specs.Yard.{Offer, Yard}
use Rattle.live_yard.specs.GrantedLines.{WasTried, answered}

-- a line in front
later : (l : Line) (lines : List Line) (t n : ℕ) → WasTried lines t n → WasTried (l ∷ lines) t (suc n)
later l lines t zero tried = absurd (omega (arith, tried.0))
later l lines t (suc n) tried =
    let here : suc (suc n) - 1 ≡ suc n = omega arith in
    let there : n ≡ suc n - 1 = omega arith in
    let step : slice_get (l ∷ lines) (suc n) ≡ slice_get lines n = refl in (
      omega arith,
      (
        tried.1.0,
        ap (λ (k : ℕ). slice_get (l ∷ lines) k) here ∙ step
            ∙ ap (λ (k : ℕ). slice_get lines k) there ∙ tried.1.1,
        tried.1.2,
      ),
    )

-- the line in front
front : (l : Line) (lines : List Line) (t : ℕ) → answered l ≡ Some t → WasTried (l ∷ lines) t 1
front l lines t is = (lit< tt, (l, refl, is))

-- each table that was tried has its line
pub tried_line : (tables : List Offer) (y : Yard) (lines : List Line) (t : ℕ) → IsRight tables y lines → y.tried < t
    → t ≤ (after_lines y lines).tried → (n : ℕ) × WasTried lines t n
tried_line tables y [] t right more done = absurd (omega (arith, more, done))
tried_line tables y (Move i from to ∷ lines) t right more done =
    let rest = tried_line tables (after_line y (Move i from to)) lines t right.1 more done in
    (suc rest.0, later (Move i from to) lines t rest.0 rest.1)
tried_line tables y (Table s ∷ lines) t right more done = elim (cases_eq s t) [
  | inl same ↦ (1, front (Table s) lines t (ap (λ (x : ℕ). Some x) same))
  | inr other ↦
      let rest = tried_line tables (after_line y (Table s)) lines t right.1 (omega (arith, right.0.0)) done in
      (suc rest.0, later (Table s) lines t rest.0 rest.1)
]
tried_line tables y (KeptDiffers s i k ∷ lines) t right more done = elim (cases_eq s t) [
  | inl same ↦ (1, front (KeptDiffers s i k) lines t (ap (λ (x : ℕ). Some x) same))
  | inr other ↦
      let rest = tried_line tables (after_line y (KeptDiffers s i k)) lines t right.1 (omega (arith, right.0.0)) done in
      (suc rest.0, later (KeptDiffers s i k) lines t rest.0 rest.1)
]
tried_line tables y (KeptOver s j n ∷ lines) t right more done = elim (cases_eq s t) [
  | inl same ↦ (1, front (KeptOver s j n) lines t (ap (λ (x : ℕ). Some x) same))
  | inr other ↦
      let rest = tried_line tables (after_line y (KeptOver s j n)) lines t right.1 (omega (arith, right.0.0)) done in
      (suc rest.0, later (KeptOver s j n) lines t rest.0 rest.1)
]
