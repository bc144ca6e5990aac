-- Walks from a train to those that it waits for, by the train that they have come to.
use Rattle.std.proofs.Common.{◌≡◌, ℕ, zero, suc, ◌+◌, ◌<◌, ◌≤◌, List, [], ◌∷◌, ◌++◌, get_or, false, true, refl, arith}
use Rattle.std.specs.Prelude.{Some, None, Decides}
use Rattle.rail_model.specs.Table.{Table, trains}
use Rattle.state_sentences.specs.Circle.{waits_for}
use Rattle.state_sentences.proofs.Walks.{IsWalk, walk_goes, walk_closes, no_short_circle, no_circle_at_end, walk_end}
use Rattle.layout_picture.specs.Red.{IsInCircle}

-- n steps lead from the first train to the last.
pub record ComesTo (T : Table) (p : List ℕ) (first n last : ℕ) : Type 0 where
  pub before : List ℕ
  pub walk : IsWalk T p first n (before ++ last ∷ [])

-- no step leads to the train itself
pub comes_nowhere : (T : Table) (p : List ℕ) (first : ℕ) → first < trains T → ComesTo T p first 0 first
comes_nowhere T p first lt = record {
  before = [];
  walk = record {
    size = refl;
    starts = refl;
    members = members;
    next = λ k low. absurd (omega (arith, low));
    away = λ k some low same. omega (arith, some, low);
  };
}
  where
    members : (k : ℕ) → k ≤ 0 → get_or (first ∷ []) k 0 < trains T
    members zero low = lt
    members (suc k) low = absurd (omega (arith, low))

module _ (T : Table) (p : List ℕ) (first n last : ℕ) (on : ComesTo T p first n last) where
  -- one step more leads to the train that the last one waits for
  pub comes_on : (next : ℕ) → waits_for T p last ≡ Some next → next < trains T → (next ≡ first → ⊥) → ComesTo T p first (n + 1) next
  comes_on next waits lt other = record {
    before = on.before ++ last ∷ [];
    walk = walk_goes T p first n next (on.before ++ last ∷ []) on.walk (walk_end T p first n on.before last (Some next) on.walk waits) lt other;
  }

  -- if the last train waits for the first, there is a circle
  pub comes_home : n < trains T → waits_for T p last ≡ Some first → IsInCircle T p first
  comes_home few waits =
      let path = on.before ++ last ∷ [] in
      let closed = walk_closes T p first n path on.walk few (walk_end T p first n on.before last (Some first) on.walk waits) in
      record { circle = path; is_circle = closed.circle; first = closed.first }

  -- if it waits for none, there is none
  pub comes_to_end : waits_for T p last ≡ None → IsInCircle T p first → ⊥
  comes_to_end none round =
      no_circle_at_end T p round.circle first n (on.before ++ last ∷ []) round.is_circle round.first on.walk
      (walk_end T p first n on.before last None on.walk none)

  -- nor if there are as many steps as trains
  pub comes_too_far : trains T ≤ n → IsInCircle T p first → ⊥
  comes_too_far many round =
      no_short_circle T p round.circle first n (on.before ++ last ∷ []) round.is_circle round.first on.walk
      (omega (arith, round.is_circle.few))

-- a test that fails tells that a fact doesn't hold
pub decides_no : {P : Type 0} → (P → ⊥) → Decides false P
decides_no {P} refuted = (λ e. absurd (no e), λ holds. absurd (refuted holds))
  where
    no : false ≡ true → ⊥
    no e = cc

-- a test that passes, that it holds
pub decides_yes : {P : Type 0} → P → Decides true P
decides_yes holds = (λ e. holds, λ known. refl)
