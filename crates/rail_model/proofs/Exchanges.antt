-- Tables that agree on what the trains have passed: the new one keeps the state legal.
use Rattle.std.proofs.Common.{◌≡◌, ◌≢◌, ◌⊎◌, ℕ, ◌<◌, ◌≤◌, pos, List, Option, Some, None, refl, sym, ◌∙◌, ap, arith, inl, inr}
use Rattle.std.proofs.lemmas.Bool.{cases_eq, cases_lt}
use Rattle.rail_model.specs.Table.{Table, trains, last, point, limit, place, count}
use Rattle.rail_model.specs.State.{Legal}
use Rattle.rail_model.specs.Move.{IsOver}
use Rattle.rail_model.specs.Exchange.{Agrees}
use Rattle.rail_model.proofs.Decide.{cases_≤ℤ}

same_option : (a b : Option ℕ) → (a ≡ b) ⊎ (a ≢ b)
same_option None None = inl refl
same_option None (Some y) = inr (λ e. absurd cc)
same_option (Some x) None = inr (λ e. absurd cc)
same_option (Some x) (Some y) = elim (cases_eq x y) [ inl e ↦ inl (ap Some e) | inr ne ↦ inr (λ e. ne cc) ]

pub agrees_last : (T new : Table) (p : List ℕ) (i : ℕ) → Agrees T new p → i < trains T → place p i ≤ last new i
agrees_last T new p i agrees i_in = elim (cases_lt (last new i) (place p i)) [
  | inl short ↦ absurd (agrees i (place p i) (i_in, omega arith, inl short))
  | inr le ↦ le
]

pub agrees_point : (T new : Table) (p : List ℕ) (i : ℕ) → Agrees T new p → i < trains T → point new i (place p i) ≡ point T i (place p i)
agrees_point T new p i agrees i_in = elim (same_option (point new i (place p i)) (point T i (place p i))) [
  | inl same ↦ same
  | inr ne ↦ absurd (agrees i (place p i) (i_in, omega arith, inr ne))
]

pub legal_exchange : (T new : Table) (p : List ℕ) → trains new ≡ trains T → Legal T p → Agrees T new p → ((s : ℕ) → IsOver new p s → ⊥) → Legal new p
legal_exchange T new p same legal agrees fits = record {
  one_each = legal.one_each ∙ sym same;
  in_range = λ i h. agrees_last T new p i agrees (omega arith);
  apart = λ i j q hi hj ne a b. legal.apart i j q (omega arith) (omega arith) ne
      (sym (agrees_point T new p i agrees (omega arith)) ∙ a) (sym (agrees_point T new p j agrees (omega arith)) ∙ b);
  within = λ s h. elim (cases_≤ℤ (count new s p) (pos (limit new s))) [ inl le ↦ le | inr over ↦ absurd (fits s (h, over)) ];
}
