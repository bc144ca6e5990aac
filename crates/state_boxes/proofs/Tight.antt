-- The first tight rise at a place is of the first section that may have no room for the step from there.
use Rattle.std.proofs.Common.{◌≡◌, ℕ, zero, suc, ◌+◌, ◌<◌, ◌≤◌, pos, Bool, true, false, List, [], ◌∷◌, length, Option, Some, None, get_or, refl, sym, ◌∙◌, ap, subst, arith, inl, inr}
use Rattle.std.specs.Prelude.{find, All, Decides, option_map, if◌then◌else◌, ◌<ℤ◌, int_lt}
use Rattle.std.specs.Option.{option_or}
use Rattle.std.proofs.lemmas.List.Elements.{All-nil, All-cons, All-append}
use Rattle.std.proofs.lemmas.List.Folds.{find-append}
use Rattle.std.proofs.lemmas.Bool.{cases_eq}
use Rattle.std.proofs.lemmas.Bool.Decides.{Decides-and}
use Rattle.rail_model.specs.Table.{Table, trains, last, limit, change, share}
use Rattle.rail_model.specs.Move.{IsFirstOrNone}
use Rattle.rail_model.specs.Certificate.{Range, range, IsIn, most_with, MayBeFull}
use Rattle.rail_model.proofs.Agree.{Decides-leb, Decides-int_lt}
use Rattle.state_boxes.specs.declared.rises.Rise.{Rise}
use Rattle.state_boxes.specs.Sums.{rises_at, is_tight, AreRises, IsRise}
use Rattle.state_boxes.proofs.InWay.{first_alike}

-- The rise's place is in the range, and its section may have no room there.
abbrev IsTight : Table → List Range → ℕ → Rise → Type 0
IsTight T B i r = IsIn r.place (range B i) × (pos (limit T r.section) <ℤ most_with T B r.section i (r.place + 1))

pub Decides-tight : (T : Table) (B : List Range) (i : ℕ) (r : Rise) → Decides (is_tight T B i r) (IsTight T B i r)
Decides-tight T B i r = Decides-and _ _ (Decides-and _ _ (Decides-leb _ _) (Decides-leb _ _)) (Decides-int_lt _ _)

-- the section s below n may have no room for a step of train i from the place a of its range
abbrev pub IsFullAt : Table → List Range → ℕ → ℕ → ℕ → ℕ → Type 0
IsFullAt T B i a n s = (s < n) × IsIn a (range B i) × (pos 0 <ℤ change T i s (a + 1)) × (pos (limit T s) <ℤ most_with T B s i (a + 1))

abbrev Firsts : Table → List Range → ℕ → ℕ → ℕ → Option Rise → Type 0
Firsts T B i a n o = IsFirstOrNone (IsFullAt T B i a n) (option_map (λ r. r.section) o)

one_more : (T : Table) (B : List Range) (i a n : ℕ) → Firsts T B i a n None →
    (IsIn a (range B i) → pos 0 <ℤ change T i n (a + 1) → pos (limit T n) <ℤ most_with T B n i (a + 1) → ⊥) → Firsts T B i a (suc n) None
one_more T B i a n before here = λ s h. elim (cases_eq s n) [
  | inl same ↦ here h.1 (subst (λ (k : ℕ). pos 0 <ℤ change T i k (a + 1)) same h.2)
      (subst (λ (k : ℕ). pos (limit T k) <ℤ most_with T B k i (a + 1)) same h.3)
  | inr other ↦ before s (omega (arith, h.0, other), h.1, h.2, h.3)
]

at_rise : (T : Table) (B : List Range) (i a n : ℕ) → Firsts T B i a n None → pos 0 <ℤ change T i n (a + 1) →
    Firsts T B i a (suc n) (find (is_tight T B i) (record { section = n; place = a; share = share T i n (a + 1); by = change T i n (a + 1) } ∷ []))
at_rise T B i a n before up =
    let r : Rise = record { section = n; place = a; share = share T i n (a + 1); by = change T i n (a + 1) } in
    (elim (is_tight T B i r) as (λ v. is_tight T B i r ≡ v → Firsts T B i a (suc n) (if v then Some r else None)) [
      | true ↦ λ e. let h = (Decides-tight T B i r).0 e in ((omega arith, h.0, up, h.1), λ k lt full. before k (lt, full.1, full.2, full.3))
      | false ↦ λ e. one_more T B i a n before (λ inside _ over. absurd (let f : is_tight T B i r ≡ true = (Decides-tight T B i r).1 (inside, over) in cc))
    ]) refl

tail_first : (T : Table) (B : List Range) (i a n : ℕ) → Firsts T B i a n None →
    Firsts T B i a (suc n) (find (is_tight T B i) (if int_lt (pos 0) (change T i n (a + 1)) then record { section = n; place = a; share = share T i n (a + 1); by = change T i n (a + 1) } ∷ [] else []))
tail_first T B i a n before =
    (elim (int_lt (pos 0) (change T i n (a + 1))) as (λ v. int_lt (pos 0) (change T i n (a + 1)) ≡ v →
    Firsts T B i a (suc n) (find (is_tight T B i) (if v then record { section = n; place = a; share = share T i n (a + 1); by = change T i n (a + 1) } ∷ [] else []))) [
      | true ↦ λ e. at_rise T B i a n before ((Decides-int_lt _ _).0 e)
      | false ↦ λ e. one_more T B i a n before (λ _ up _. absurd (let f : int_lt (pos 0) (change T i n (a + 1)) ≡ true = (Decides-int_lt _ _).1 up in cc))
    ]) refl

kept : (T : Table) (B : List Range) (i a n : ℕ) (o u : Option Rise) → Firsts T B i a n o → (Firsts T B i a n None → Firsts T B i a (suc n) u) → Firsts T B i a (suc n) (option_or o u)
kept T B i a n None u h later = later h
kept T B i a n (Some r) u h later =
    let lt : r.section < n = h.0.0 in
    ((omega arith, h.0.1, h.0.2, h.0.3), λ k l p. h.1 k l (omega arith, p.1, p.2, p.3))

rises_first : (T : Table) (B : List Range) (i a n : ℕ) → Firsts T B i a n (find (is_tight T B i) (rises_at T i a n))
rises_first T B i a zero = λ s h. omega (arith, h.0)
rises_first T B i a (suc n) =
    subst (Firsts T B i a (suc n)) (sym (find-append (is_tight T B i) (rises_at T i a n) _))
    (kept T B i a n (find (is_tight T B i) (rises_at T i a n)) _ (rises_first T B i a n) (tail_first T B i a n))

-- at its only place the first tight rise is one of the first section that may have no room
pub tight_first : (T : Table) (B : List Range) (i a : ℕ) → a ≡ (range B i).lo → (range B i).lo ≡ (range B i).hi →
    IsFirstOrNone (MayBeFull T B i) (option_map (λ r. r.section) (find (is_tight T B i) (rises_at T i a (length T.sections))))
tight_first T B i a at single =
    first_alike (IsFullAt T B i a (length T.sections)) (MayBeFull T B i) _
    (λ s h. (h.0, (a, h.1, h.2, h.3)))
    (λ s h. (
    let same : h.1.0 ≡ a = omega (arith, h.1.1, at, single) in (
      h.0,
      subst (λ (c : ℕ). IsIn c (range B i)) same h.1.1,
      subst (λ (c : ℕ). pos 0 <ℤ change T i s (c + 1)) same h.1.2,
      subst (λ (c : ℕ). pos (limit T s) <ℤ most_with T B s i (c + 1)) same h.1.3,
    )
    ))
    (rises_first T B i a (length T.sections))

-- where no rise at a place is tight no section may be without room for the step from there
pub none_full : (T : Table) (B : List Range) (i a : ℕ) (xs : List Rise) → xs ≡ rises_at T i a (length T.sections) → find (is_tight T B i) xs ≡ None →
    (s : ℕ) → IsFullAt T B i a (length T.sections) s → ⊥
none_full T B i a xs row none =
    subst (Firsts T B i a (length T.sections)) (sym (ap (find (is_tight T B i)) row) ∙ none) (rises_first T B i a (length T.sections))

-- a tight rise is one of a section that may have no room
pub tight_full : (T : Table) (B : List Range) (i : ℕ) (r : Rise) → IsRise T i r → is_tight T B i r ≡ true → MayBeFull T B i r.section
tight_full T B i r rise tight = let h = (Decides-tight T B i r).0 tight in (rise.section_in, (r.place, h.0, rise.up, h.1))

-- ---- what is known of rises

known_choice : (T : Table) (i : ℕ) (b : Bool) (r : Rise) → (b ≡ true → IsRise T i r) → All (IsRise T i) (if b then r ∷ [] else [])
known_choice T i true r h = All-cons (IsRise T i) r [] (h refl) (All-nil (IsRise T i))
known_choice T i false r h = All-nil (IsRise T i)

pub known_rises : (T : Table) (i a n : ℕ) → a < last T i → n ≤ length T.sections → All (IsRise T i) (rises_at T i a n)
known_rises T i a zero lt le = All-nil (IsRise T i)
known_rises T i a (suc n) lt le =
    All-append (IsRise T i) (rises_at T i a n) _ (known_rises T i a n lt (omega arith))
    (known_choice T i (int_lt (pos 0) (change T i n (a + 1))) (record { section = n; place = a; share = share T i n (a + 1); by = change T i n (a + 1) })
    (λ up. record { section_in = omega arith; place_in = lt; up = (Decides-int_lt _ _).0 up; by_is = refl; share_is = refl }))

-- the rises at a place of a train before its last
pub known_row : (T : Table) (rows : List (List (List Rise))) (i a : ℕ) (xs : List Rise) → AreRises T rows → i < trains T → a < last T i →
    xs ≡ get_or (get_or rows i []) a [] → (xs ≡ rises_at T i a (length T.sections)) × All (IsRise T i) xs
known_row T rows i a xs rises lt before at =
    let row : xs ≡ rises_at T i a (length T.sections) = at ∙ (rises.1 i lt).1 a before in
    (row, subst (λ (ys : List Rise). All (IsRise T i) ys) (sym row) (known_rises T i a (length T.sections) before (omega arith)))
