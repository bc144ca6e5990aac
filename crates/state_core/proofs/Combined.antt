-- What is so of each combination of places in stays is so of some state that has the stays' trains where a given one
-- has them.
use Rattle.std.proofs.Common.{◌≡◌, ◌==◌, ℕ, Bool, true, false, true≢false, List, [], ◌∷◌, length, None, refl, arith, ap, ◌∙◌, inl, inr, subst, sym}
use Rattle.std.specs.Prelude.{slice_set, ◌||◌}
use Rattle.std.proofs.lemmas.Bool.{eq-eqb}
use Rattle.std.proofs.lemmas.Bool.Decides.{eqb_tells}
use Rattle.std.proofs.lemmas.List.{get_or-set_same, get_or-set_other, length-set}
use Rattle.rail_model.specs.Table.{place}
use Rattle.rail_model.specs.Certificate.{IsIn}
use Rattle.rail_model.proofs.Found.{Among, find-none}
use Rattle.forbidden_states.specs.Forbid.{Stay, AreStays, InStays, stay_of}
use Rattle.state_core.specs.Core.{has}
use Rattle.state_core.specs.Trap.{IsAmong, EachCombination, group_of}

-- ---- the trains of stays

either_true : (x : Bool) → (x || true) ≡ true
either_true true = refl
either_true false = refl

pub has_member : (b : List Stay) (s : Stay) → IsAmong b s → has (group_of b) s.train ≡ true
has_member [] s a = absurd a
has_member (t ∷ later) s a = elim a [
  | inl e ↦ (let same : (t.train == s.train) ≡ true = eq-eqb t.train s.train (ap (λ (x : Stay). x.train) e) in
      rw same refl)
  | inr h ↦ (let rest : has (group_of later) s.train ≡ true = has_member later s h in
      rw rest (either_true (t.train == s.train)))
]

-- the stay of a train of the group
pub stay_with : (b : List Stay) (i : ℕ) → has (group_of b) i ≡ true → (s : Stay) × IsAmong b s × (s.train ≡ i)
stay_with [] i h = absurd (true≢false (sym h))
stay_with (t ∷ later) i h = elim (eqb_tells t.train i) [
  | inl e ↦ (t, inl refl, e.1)
  | inr e ↦
      let rest : has (group_of later) i ≡ true = sym (ap (λ x. x || has (group_of later) i) e.0) ∙ h in
      let found = stay_with later i rest in
      (found.0, inr found.1, found.2)
]

-- ---- states in stays

pub in_stay : (p : List ℕ) (b : List Stay) (s : Stay) → InStays p b → IsAmong b s → IsIn (place p s.train) s.range
in_stay p [] s inside a = absurd a
in_stay p (t ∷ later) s inside a = elim a [
  | inl e ↦ subst (λ (v : Stay). IsIn (place p v.train) v.range) e inside.0
  | inr h ↦ in_stay p later s inside.1 h
]

pub all_in : (p : List ℕ) (b : List Stay) → ((s : Stay) → IsAmong b s → IsIn (place p s.train) s.range) → InStays p b
all_in p [] each = tt
all_in p (t ∷ later) each = (each t (inl refl), all_in p later (λ s a. each s (inr a)))

-- ---- combinations

-- no stay is this train's
abbrev pub HasNone : List Stay → ℕ → Type 0
HasNone b i = (s : Stay) → IsAmong b s → s.train ≡ i → ⊥

as_among : (b : List Stay) (s : Stay) → IsAmong b s → Among b s
as_among [] s a = absurd a
as_among (t ∷ later) s a = elim a [ inl e ↦ inl e | inr h ↦ inr (as_among later s h) ]

none_later : (b : List Stay) (i : ℕ) → stay_of b i ≡ None → HasNone b i
none_later b i none s a e =
    let missed : (s.train == i) ≡ false = find-none (λ v. v.train == i) b s none (as_among b s a) in
    true≢false (sym (eq-eqb s.train i e) ∙ missed)

-- A state has the stays' trains where r has them, and all others where p has them.
pub record IsMixed (b : List Stay) (p r q : List ℕ) : Type 0 where
  pub size : length q ≡ length p
  pub inside : (s : Stay) → IsAmong b s → place q s.train ≡ place r s.train
  pub beside : (i : ℕ) → HasNone b i → place q i ≡ place p i

pub combined : (P : List ℕ → Type 0) (n : ℕ) (b : List Stay) (p r : List ℕ) → length p ≡ n → AreStays n b →
    InStays r b →
    EachCombination P b p → (q : List ℕ) × P q × IsMixed b p r q
combined P n [] p r size stays inside each =
    (p, each, record { size = refl; inside = λ s a. absurd a; beside = λ i none. refl })
combined P n (s ∷ later) p r size stays inside each =
    let k : ℕ = place r s.train in
    let moved : List ℕ = slice_set p s.train k in
    let as_long : length moved ≡ length p = length-set p s.train k in
    let rest = combined P n later moved r (as_long ∙ size) stays.3 inside.1 (each k inside.0) in
    let q : List ℕ = rest.0 in
    let mixed : IsMixed later moved r q = rest.2 in
    let there : place moved s.train ≡ k = get_or-set_same p s.train k 0 (omega (arith, size, stays.0)) in
    let own : place q s.train ≡ place r s.train = mixed.beside s.train (none_later later s.train stays.2) ∙ there in (
      q,
      rest.1,
      record {
        size = mixed.size ∙ as_long;
        inside = λ t a. elim a [
          | inl e ↦ subst (λ (v : Stay). place q v.train ≡ place r v.train) e own
          | inr h ↦ mixed.inside t h
        ];
        beside = λ i none.
            mixed.beside i (λ t a. none t (inr a))
            ∙ get_or-set_other p s.train i k 0 (λ e. none s (inl refl) (sym e));
      },
    )
