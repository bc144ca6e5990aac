-- What the shares of a section that forbids some stays are.
use Rattle.std.proofs.Common.{◌≡◌, ℕ, zero, suc, ◌+◌, ◌<◌, ◌≤◌, ◌==◌, true, false, ◌&&◌, List, [], ◌∷◌, length, Option, Some, None, refl, arith, ap, ◌∙◌, subst, sym, cond}
use Rattle.std.specs.Prelude.{slice_index_or, slice_get, ℤ, pos, nat_le, if◌then◌else◌}
use Rattle.std.proofs.lemmas.List.FromFn.{get_or-map-range_with_len}
use Rattle.rail_model.specs.Sums.{total_below}
use Rattle.rail_model.specs.Table.{Mission, Section, mission, last, last_of, section, share}
use Rattle.rail_model.specs.Certificate.{Range}
use Rattle.rail_model.proofs.Sums.{total_same}
use Rattle.forbidden_states.specs.Forbid.{Stay, AreStays, unmarked, stay_of, change_at, changes_of, all_changes, forbidding, marked}
use Rattle.forbidden_states.proofs.Changes.{inside, total-change}

-- 1 in the range and 0 elsewhere
abbrev pub hit : Range → ℕ → ℕ
hit r k = if nat_le r.lo k && nat_le k r.hi then 1 else 0

-- the same for a train that may have a stay
abbrev pub hit_of : Option Stay → ℕ → ℕ
hit_of None k = 0
hit_of (Some s) k = hit s.range k

inside-hit : (r : Range) (k : ℕ) → inside r k ≡ pos (hit r k)
inside-hit r k = (elim (nat_le r.lo k && nat_le k r.hi) as (λ b. ◌≡◌ {A = ℤ} (if b then pos 1 else pos 0) (pos (if b then 1 else 0))) [ true ↦ refl | false ↦ refl ])

-- a stay that a list holds isn't empty
stay-filled : (n : ℕ) (b : List Stay) (i : ℕ) (s : Stay) → AreStays n b → stay_of b i ≡ Some s → s.range.lo ≤ s.range.hi
stay-filled n [] i s a h = absurd (let e : None ≡ Some s = h in cc)
stay-filled n (t ∷ b) i s a h =
    (elim (t.train == i) as (λ c. cond c (Some t) (stay_of b i) ≡ Some s → s.range.lo ≤ s.range.hi) [
      | true ↦ λ e. subst (λ v. v.range.lo ≤ v.range.hi) (let u : t ≡ s = cc in u) a.1
      | false ↦ λ e. stay-filled n b i s a.3 e
    ]) h

total-none : (n : ℕ) → total_below (change_at None) n ≡ pos 0
total-none zero = refl
total-none (suc n) = let e = total-none n in rw e refl

total-stay : (o : Option Stay) (k : ℕ) → ((s : Stay) → o ≡ Some s → s.range.lo ≤ s.range.hi) → total_below (change_at o) (suc k) ≡ pos (hit_of o k)
total-stay None k filled = total-none (suc k)
total-stay (Some s) k filled = total-change s.range k (filled s refl) ∙ inside-hit s.range k

-- the share is 1 in the range of the stay and 0 elsewhere
total-changes : (m : Mission) (o : Option Stay) (k : ℕ) → ((s : Stay) → o ≡ Some s → s.range.lo ≤ s.range.hi) → k ≤ last_of m
    → total_below (λ a. slice_index_or (changes_of m o) a (pos 0)) (suc k) ≡ pos (hit_of o k)
total-changes m o k filled h =
    total_same _ (change_at o) (suc k) (λ a l. get_or-map-range_with_len (change_at o) 0 (last_of m + 1) a a (pos 0) (omega arith) (omega arith))
    ∙ total-stay o k filled

pub section-at : (M : List Mission) (all : List (List Stay)) (s : ℕ) (b : List Stay) → slice_get all s ≡ Some b → section (marked M all) s ≡ forbidding M b
section-at M [] s b h = cc
section-at M (c ∷ all) zero b h = let e : c ≡ b = cc in cc
section-at M (c ∷ all) (suc s) b h = section-at M all s b h

pub changes-at : (M : List Mission) (b : List Stay) (i : ℕ) → i < length M → slice_index_or (all_changes M b) i [] ≡ changes_of (mission (unmarked M) i) (stay_of b i)
changes-at M b i l = get_or-map-range_with_len (λ j. changes_of (mission (unmarked M) j) (stay_of b j)) 0 (length M) i i [] l (omega arith)

pub share-marked : (M : List Mission) (all : List (List Stay)) (s : ℕ) (b : List Stay) (i k : ℕ)
    → slice_get all s ≡ Some b → AreStays (length M) b → i < length M → k ≤ last (unmarked M) i
    → share (marked M all) i s k ≡ pos (hit_of (stay_of b i) k)
share-marked M all s b i k at are l h =
    let e : section (marked M all) s ≡ forbidding M b = section-at M all s b at in
    let g : slice_index_or (section (marked M all) s).changes i [] ≡ changes_of (mission (unmarked M) i) (stay_of b i) = ap (λ (c : Section). slice_index_or c.changes i []) e ∙ changes-at M b i l in
    subst (λ (cs : List ℤ). total_below (λ a. slice_index_or cs a (pos 0)) (suc k) ≡ pos (hit_of (stay_of b i) k)) (sym g)
    (total-changes (mission (unmarked M) i) (stay_of b i) k (λ t u. stay-filled (length M) b i t are u) h)
