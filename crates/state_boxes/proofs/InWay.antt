-- The first covered spot is of the first train that may stand in the way.
use Rattle.std.proofs.Common.{◌≡◌, ◌≢◌, ℕ, zero, suc, ◌+◌, ◌-◌, ◌<◌, ◌≤◌, Bool, true, false, List, [], ◌∷◌, length, Option, Some, None, refl, sym, ◌∙◌, ap, subst, arith, inl, inr}
use Rattle.std.specs.Prelude.{find, All, MatchOption, Decides, option_map, if◌then◌else◌}
use Rattle.std.specs.Option.{option_or}
use Rattle.std.proofs.lemmas.List.Elements.{All-nil, All-cons, All-append}
use Rattle.std.proofs.lemmas.List.Folds.{find-append}
use Rattle.std.proofs.lemmas.Option.{slice_get_within}
use Rattle.std.proofs.lemmas.Bool.{cases_eq}
use Rattle.std.proofs.lemmas.Bool.Decides.{Decides-and, Decides-like, Decides-not, Decides-eqb}
use Rattle.rail_model.specs.Table.{Table, mission, trains, last, point}
use Rattle.rail_model.specs.Move.{IsFirst, IsFirstOrNone}
use Rattle.rail_model.specs.Certificate.{Range, range, IsIn}
use Rattle.rail_model.proofs.Agree.{Decides-leb, Decides-same_point}
use Rattle.state_boxes.specs.declared.ways.Spot.{Spot}
use Rattle.state_boxes.specs.Ways.{is_at, column, spots, is_covered, is_rival, IsInWay, MayStand}

some_same : (p q : ℕ) → Some p ≡ Some q → p ≡ q
some_same p q e = cc

pub Decides-at : (T : Table) (q j b : ℕ) → Decides (is_at T q j b) (point T j b ≡ Some q)
Decides-at T q j b =
    Decides-like (is_at T q j b)
    (λ h. h.1 ∙ ap Some (sym (some_same q h.0 h.2)))
    (λ e. (q, e, refl))
    (Decides-same_point (point T j b) (Some q))

pub Decides-covered : (B : List Range) (s : Spot) → Decides (is_covered B s) (IsIn s.place (range B s.train))
Decides-covered B s = Decides-and _ _ (Decides-leb _ _) (Decides-leb _ _)

pub Decides-rival : (B : List Range) (i : ℕ) (s : Spot) → Decides (is_rival B i s) ((s.train ≢ i) × IsIn s.place (range B s.train))
Decides-rival B i s = Decides-and _ _ (Decides-not _ (Decides-eqb s.train i)) (Decides-covered B s)

-- what is found among the first b places of train j, of which none is train i's
abbrev Hits : Table → List Range → ℕ → ℕ → ℕ → ℕ → Option Spot → Type 0
Hits T B i q j b o =
    MatchOption o ((c : ℕ) → c < b → j ≢ i → IsIn c (range B j) → point T j c ≡ Some q → ⊥)
    (λ s. (s.train ≡ j) × (j ≢ i) × IsIn s.place (range B j) × (point T j s.place ≡ Some q))

module _ (T : Table) (B : List Range) (i q j : ℕ) where
  -- one place more
  one_more : (b : ℕ) → Hits T B i q j b None → (j ≢ i → IsIn b (range B j) → point T j b ≡ Some q → ⊥) → Hits T B i q j (suc b) None
  one_more b before here = λ c lt apart inside at. elim (cases_eq c b) [
    | inl same ↦ here apart (subst (λ (k : ℕ). IsIn k (range B j)) same inside) (subst (λ (k : ℕ). point T j k ≡ Some q) same at)
    | inr other ↦ before c (omega arith) apart inside at
  ]

  at_spot : (b : ℕ) → Hits T B i q j b None → point T j b ≡ Some q → Hits T B i q j (suc b) (find (is_rival B i) (record { train = j; place = b } ∷ []))
  at_spot b before at =
      let s : Spot = record { train = j; place = b } in
      (elim (is_rival B i s) as (λ v. is_rival B i s ≡ v → Hits T B i q j (suc b) (if v then Some s else None)) [
        | true ↦ λ e. let found = (Decides-rival B i s).0 e in (refl, found.0, found.1, at)
        | false ↦ λ e. one_more b before (λ apart inside _. absurd (let f : is_rival B i s ≡ true = (Decides-rival B i s).1 (apart, inside) in cc))
      ]) refl

  tail_hits : (b : ℕ) → Hits T B i q j b None →
      Hits T B i q j (suc b) (find (is_rival B i) (if is_at T q j b then record { train = j; place = b } ∷ [] else []))
  tail_hits b before =
      (elim (is_at T q j b) as (λ v. is_at T q j b ≡ v → Hits T B i q j (suc b) (find (is_rival B i) (if v then record { train = j; place = b } ∷ [] else []))) [
        | true ↦ λ e. at_spot b before ((Decides-at T q j b).0 e)
        | false ↦ λ e. one_more b before (λ _ _ at. absurd (let f : is_at T q j b ≡ true = (Decides-at T q j b).1 at in cc))
      ]) refl

  either_hits : (b : ℕ) (o u : Option Spot) → Hits T B i q j b o → (Hits T B i q j b None → Hits T B i q j (suc b) u) → Hits T B i q j (suc b) (option_or o u)
  either_hits b None u h later = later h
  either_hits b (Some s) u h later = h

  column_hits : (b : ℕ) → Hits T B i q j b (find (is_rival B i) (column T q j b))
  column_hits zero = λ c lt apart inside at. omega (arith, lt)
  column_hits (suc b) =
      subst (Hits T B i q j (suc b)) (sym (find-append (is_rival B i) (column T q j b) (if is_at T q j b then record { train = j; place = b } ∷ [] else [])))
      (either_hits b (find (is_rival B i) (column T q j b)) _ (column_hits b) (tail_hits b))

-- a place with a point is one of the train
pub point_within : (T : Table) (j b q : ℕ) → point T j b ≡ Some q → b ≤ last T j
point_within T j b q at =
    let within : b < length (mission T j).points = slice_get_within (mission T j).points b q at in
    (elim ((mission T j).exits) as (λ v. b ≤ (if v then length (mission T j).points else length (mission T j).points - 1)) [
      | true ↦ omega arith
      | false ↦ omega arith
    ])

-- what is found among the spots of the trains below n
abbrev Firsts : Table → List Range → ℕ → ℕ → ℕ → Option Spot → Type 0
Firsts T B i q n o = IsFirstOrNone (MayStand T B i q n) (option_map (λ s. s.train) o)

-- one train more, which may not stand there
next_train : (T : Table) (B : List Range) (i q n : ℕ) → Firsts T B i q n None → (n ≢ i → (b : ℕ) → IsIn b (range B n) → point T n b ≡ Some q → ⊥) → Firsts T B i q (suc n) None
next_train T B i q n before here = λ k h. elim (cases_eq k n) [
  | inl same ↦ here (λ e. h.1 (same ∙ e)) h.2.0 (subst (λ (j : ℕ). IsIn h.2.0 (range B j)) same h.2.1) (subst (λ (j : ℕ). point T j h.2.0 ≡ Some q) same h.2.2)
  | inr other ↦ before k (omega (arith, h.0), h.1, h.2)
]

in_column : (T : Table) (B : List Range) (i q n : ℕ) → Firsts T B i q n None → (o : Option Spot) → Hits T B i q n (last T n + 1) o → Firsts T B i q (suc n) o
in_column T B i q n before None hits =
    next_train T B i q n before (λ apart b inside at. hits b (let l : b ≤ last T n = point_within T n b q at in omega arith) apart inside at)
in_column T B i q n before (Some s) hits =
    subst (λ (j : ℕ). IsFirst (MayStand T B i q (suc n)) j) (sym hits.0)
    ((omega arith, hits.1, (s.place, hits.2, hits.3)), λ k lt h. before k (lt, h.1, h.2))

kept : (T : Table) (B : List Range) (i q n : ℕ) (o u : Option Spot) → Firsts T B i q n o → (Firsts T B i q n None → Firsts T B i q (suc n) u) → Firsts T B i q (suc n) (option_or o u)
kept T B i q n None u h later = later h
kept T B i q n (Some s) u h later =
    let lt : s.train < n = h.0.0 in
    ((omega arith, h.0.1, h.0.2), λ k l p. h.1 k l (omega arith, p.1, p.2))

spots_first : (T : Table) (B : List Range) (i q n : ℕ) → Firsts T B i q n (find (is_rival B i) (spots T q n))
spots_first T B i q zero = λ k h. omega (arith, h.0)
spots_first T B i q (suc n) =
    subst (Firsts T B i q (suc n)) (sym (find-append (is_rival B i) (spots T q n) (column T q n (last T n + 1))))
    (kept T B i q n (find (is_rival B i) (spots T q n)) _ (spots_first T B i q n)
    (λ before. in_column T B i q n before (find (is_rival B i) (column T q n (last T n + 1))) (column_hits T B i q n (last T n + 1))))

-- the same where facts are alike
pub first_alike : (P Q : ℕ → Type 0) (o : Option ℕ) → ((k : ℕ) → P k → Q k) → ((k : ℕ) → Q k → P k) → IsFirstOrNone P o → IsFirstOrNone Q o
first_alike P Q None to from h = λ k q. h k (from k q)
first_alike P Q (Some k) to from h = (to k h.0, λ j lt q. h.1 j lt (from j q))

-- the first covered spot of another train at the point ahead is of the first train in the way
pub ahead_first : (T : Table) (B : List Range) (i a q : ℕ) → point T i (a + 1) ≡ Some q →
    IsFirstOrNone (IsInWay T B i a) (option_map (λ s. s.train) (find (is_rival B i) (spots T q (trains T))))
ahead_first T B i a q e =
    first_alike (MayStand T B i q (trains T)) (IsInWay T B i a) _
    (λ k h. (h.0, h.1, (h.2.0, q, h.2.1, e, h.2.2)))
    (λ k h. (h.0, h.1, (h.2.0, h.2.2, subst (λ (p : ℕ). point T k h.2.0 ≡ Some p) (sym (some_same q h.2.1 (sym e ∙ h.2.3))) h.2.4)))
    (spots_first T B i q (trains T))

-- where there is no point ahead, no train is in the way
pub none_ahead : (T : Table) (B : List Range) (i a : ℕ) → point T i (a + 1) ≡ None → (k : ℕ) → IsInWay T B i a k → ⊥
none_ahead T B i a e k h = let f : None ≡ Some h.2.1 = sym e ∙ h.2.3 in cc

-- ---- the trains of spots are trains of the table

abbrev IsKnown : ℕ → Spot → Type 0
IsKnown n s = s.train < n

known_choice : (n : ℕ) (b : Bool) (xs : List Spot) → All (IsKnown n) xs → All (IsKnown n) (if b then xs else [])
known_choice n true xs h = h
known_choice n false xs h = All-nil (IsKnown n)

pub known_column : (T : Table) (n q j b : ℕ) → j < n → All (IsKnown n) (column T q j b)
known_column T n q j zero lt = All-nil (IsKnown n)
known_column T n q j (suc b) lt =
    All-append (IsKnown n) (column T q j b) _ (known_column T n q j b lt)
    (known_choice n (is_at T q j b) _ (All-cons (IsKnown n) (record { train = j; place = b }) [] lt (All-nil (IsKnown n))))

pub known_below : (T : Table) (m q n : ℕ) → n ≤ m → All (IsKnown m) (spots T q n)
known_below T m q zero le = All-nil (IsKnown m)
known_below T m q (suc n) le =
    All-append (IsKnown m) (spots T q n) _ (known_below T m q n (omega arith)) (known_column T m q n (last T n + 1) (omega arith))

pub known_spots : (T : Table) (q n : ℕ) → n ≡ trains T → All (λ s. s.train < n) (spots T q (trains T))
known_spots T q n same = known_below T n q (trains T) (omega arith)
