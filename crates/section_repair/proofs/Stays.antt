-- Stays of a section: each train's own, and states in their ranges.
use Rattle.std.proofs.Common.{◌≡◌, ℕ, ◌<◌, ◌≤◌, List, [], ◌∷◌, length, Some, refl, arith, ap, ◌∙◌, inl, inr, subst, sym}
use Rattle.std.specs.Prelude.{slice_get, pos, ◌<ℤ◌}
use Rattle.std.proofs.lemmas.Bool.{eq-eqb}
use Rattle.std.proofs.lemmas.Bool.Decides.{eqb_tells}
use Rattle.std.proofs.lemmas.Option.{none-some}
use Rattle.std.proofs.Math.Facts.{yes_ltb}
use Rattle.rail_model.specs.Table.{Mission, share, place, last}
use Rattle.rail_model.specs.Certificate.{IsIn}
use Rattle.rail_model.proofs.Found.{Among}
use Rattle.forbidden_states.specs.Forbid.{Stay, AreStays, InStays, unmarked, stay_of, marked}
use Rattle.forbidden_states.proofs.Over.{hit-in}
use Rattle.forbidden_states.proofs.Shares.{hit_of, share-marked}

pub stay-own : (n : ℕ) (b : List Stay) (s : Stay) → AreStays n b → Among b s → stay_of b s.train ≡ Some s
stay-own n [] s all a = absurd a
stay-own n (t ∷ b) s all a = elim a [
  | inl e ↦ rw (eq-eqb t.train s.train (ap (λ (v : Stay). v.train) e)) (ap Some e)
  | inr later ↦ elim (eqb_tells t.train s.train) [
    | inl e ↦ absurd (none-some s (sym all.2 ∙ ap (stay_of b) e.1 ∙ stay-own n b s all.3 later))
    | inr e ↦ rw e.0 (stay-own n b s all.3 later)
  ]
]

pub stay-below : (n : ℕ) (b : List Stay) (s : Stay) → AreStays n b → Among b s → s.train < n
stay-below n [] s all a = absurd a
stay-below n (t ∷ b) s all a = elim a [ inl e ↦ subst (λ (v : Stay). v.train < n) e all.0 | inr later ↦ stay-below n b s all.3 later ]

pub InStays-at : (p : List ℕ) (b : List Stay) (s : Stay) → InStays p b → Among b s → IsIn (place p s.train) s.range
InStays-at p [] s h a = absurd a
InStays-at p (t ∷ b) s h a = elim a [ inl e ↦ subst (λ (v : Stay). IsIn (place p v.train) v.range) e h.0 | inr later ↦ InStays-at p b s h.1 later ]

pub InStays-moved : (start p : List ℕ) (b : List Stay) → ((t : Stay) → Among b t → IsIn (place start t.train) t.range → place p t.train ≡ place start t.train) →
    InStays start b → InStays p b
InStays-moved start p [] same h = tt
InStays-moved start p (s ∷ b) same h = (
  subst (λ k. IsIn k s.range) (sym (same s (inl refl) h.0)) h.0,
  InStays-moved start p b (λ t a. same t (inr a)) h.1,
)

-- a train of a section has a share of it where it is in its range
pub share-inside : (M : List Mission) (S : List (List Stay)) (s : ℕ) (b : List Stay) (t : Stay) (p : List ℕ) → slice_get S s ≡ Some b →
    AreStays (length M) b → Among b t → place p t.train ≤ last (unmarked M) t.train → IsIn (place p t.train) t.range →
    pos 0 <ℤ share (marked M S) t.train s (place p t.train)
share-inside M S s b t p at are a low inside =
    let one : hit_of (stay_of b t.train) (place p t.train) ≡ 1 =
    subst (λ o. hit_of o (place p t.train) ≡ 1) (sym (stay-own (length M) b t are a)) (hit-in t.range (place p t.train) inside) in
    let e : share (marked M S) t.train s (place p t.train) ≡ pos (hit_of (stay_of b t.train) (place p t.train)) =
    share-marked M S s b t.train (place p t.train) at are (stay-below (length M) b t are a) low in
    subst (λ z. pos 0 <ℤ z) (sym e) (record { lt = yes_ltb (omega arith) })
