-- A state has one verdict: it is legal, or illegal for one first cause.
use Rattle.std.proofs.Common.{◌≡◌, ℕ, List, sym, ◌∙◌, ap, subst, arith}
use Rattle.std.proofs.lemmas.Int.{ints}
use Rattle.rail_model.specs.Table.{Table, count, limit}
use Rattle.rail_model.specs.State.{Legal, StandsAt}
use Rattle.rail_model.specs.Move.{IsFirst, IsOver}
use Rattle.rail_model.proofs.Decide.{same_first}
use Rattle.rail_model.proofs.Shares.{same_pos}
use Rattle.legal_state.specs.declared.judges.Illegal.{Illegal}
use Rattle.legal_state.specs.declared.judges.Illegal.TheVariants.{Length, Range, Clash, Over}
use Rattle.legal_state.specs.Causes.{IsOut, IsInRange, SharesPoint, HasPair}
use Rattle.legal_state.specs.Illegal.{IsIllegal}

not_out : (T : Table) (p : List ℕ) (i : ℕ) → IsInRange T p → IsOut T p i → ⊥
not_out T p i in_range out = omega (arith, in_range i out.0, out.1)

pub illegal_not_legal : (T : Table) (p : List ℕ) (e : Illegal) → IsIllegal T p e → Legal T p → ⊥
illegal_not_legal T p (Length n) h legal = h.1 legal.one_each
illegal_not_legal T p (Range i) h legal = not_out T p i legal.in_range h.1.0
illegal_not_legal T p (Clash i k q) h legal =
    let pair = h.3.0 in
    legal.apart i k pair.2.0 (omega (arith, pair.0, pair.1)) pair.0 (λ same. omega (arith, pair.1)) pair.2.1 pair.2.2
illegal_not_legal T p (Over s n l) h legal = omega (arith, ints, legal.within s h.3.0.0, h.3.0.1)

pub one_cause : (T : Table) (p : List ℕ) (e f : Illegal) → IsIllegal T p e → IsIllegal T p f → e ≡ f
one_cause T p (Length n) (Length m) h k = let x = h.0 in let y = k.0 in cc
one_cause T p (Length n) (Range j) h k = absurd (h.1 k.0)
one_cause T p (Length n) (Clash j l r) h k = absurd (h.1 k.0)
one_cause T p (Length n) (Over t m b) h k = absurd (h.1 k.0)
one_cause T p (Range i) (Length m) h k = absurd (k.1 h.0)
one_cause T p (Range i) (Range j) h k = ap (λ (x : ℕ). Range x) (same_first (IsOut T p) i j h.1 k.1)
one_cause T p (Range i) (Clash j l r) h k = absurd (not_out T p i k.1 h.1.0)
one_cause T p (Range i) (Over t m b) h k = absurd (not_out T p i k.1 h.1.0)
one_cause T p (Clash i l q) (Length m) h k = absurd (k.1 h.0)
one_cause T p (Clash i l q) (Range j) h k = absurd (not_out T p j h.1 k.1.0)
one_cause T p (Clash i l q) (Clash j m r) h k =
    let first : i ≡ j = same_first (HasPair T p) i j h.2 k.2 in
    let second : l ≡ m = same_first (SharesPoint T p j) l m (subst (λ (x : ℕ). IsFirst (SharesPoint T p x) l) first h.3) k.3 in
    let here : StandsAt T p j q = subst (λ (x : ℕ). StandsAt T p x q) first h.4 in
    let there = k.4 in
    let point : q ≡ r = cc in
    cc
one_cause T p (Clash i l q) (Over t m b) h k = absurd (k.2 i h.2.0)
one_cause T p (Over s n a) (Length m) h k = absurd (k.1 h.0)
one_cause T p (Over s n a) (Range j) h k = absurd (not_out T p j h.1 k.1.0)
one_cause T p (Over s n a) (Clash j l r) h k = absurd (h.2 j k.2.0)
one_cause T p (Over s n a) (Over t m b) h k =
    let section : s ≡ t = same_first (IsOver T p) s t h.3 k.3 in
    let same : n ≡ m = same_pos n m (sym h.4 ∙ ap (λ (x : ℕ). count T x p) section ∙ k.4) in
    let limits : a ≡ b = h.5 ∙ ap (limit T) section ∙ sym k.5 in
    cc
