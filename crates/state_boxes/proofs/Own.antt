-- Spots are in order of their trains, so that the first and the last of them tell whether all are of one train.
use Rattle.std.proofs.Common.{◌≡◌, ℕ, zero, suc, ◌+◌, ◌-◌, ◌<◌, ◌≤◌, Bool, true, false, List, [], ◌∷◌, ◌++◌, length, Option, Some, None, refl, sym, ◌∙◌, ap, subst, inl, inr, arith, cond}
use Rattle.std.specs.Prelude.{find, All, AllPairs, get_or, if◌then◌else◌}
use Rattle.std.proofs.lemmas.List.{append-nil, append_assoc, get_or_default}
use Rattle.std.proofs.lemmas.List.Elements.{All-append, All-head, All-tail}
use Rattle.std.proofs.lemmas.List.Quantifiers.{all_pairs_push}
use Rattle.std.proofs.lemmas.Bool.{cases_eq}
use Rattle.rail_model.specs.Table.{Table, last}
use Rattle.rail_model.specs.Certificate.{Range}
use Rattle.state_boxes.specs.declared.ways.Spot.{Spot}
use Rattle.state_boxes.specs.Ways.{is_at, column, spots, is_rival}
use Rattle.state_boxes.proofs.InWay.{Decides-rival, known_below, known_column}

abbrev IsBefore : Spot → Spot → Type 0
IsBefore a b = a.train ≤ b.train

abbrev pub AreOrdered : List Spot → Type 0
AreOrdered xs = AllPairs IsBefore xs

-- one more at the end, of a train that none of the others is after
ordered_choice : (n : ℕ) (b : Bool) (xs : List Spot) (s : Spot) → s.train ≡ n → All (λ x. x.train < suc n) xs → AreOrdered xs →
    AreOrdered (xs ++ (if b then s ∷ [] else []))
ordered_choice n true xs s own known h = all_pairs_push IsBefore xs s h (λ k d lt. let below : (get_or xs k d).train < suc n = known k d lt in omega (arith, own))
ordered_choice n false xs s own known h = subst AreOrdered (sym (append-nil xs)) h

ordered_column : (T : Table) (q n b : ℕ) → AreOrdered (spots T q n) → AreOrdered (spots T q n ++ column T q n b)
ordered_column T q n zero h = subst AreOrdered (sym (append-nil (spots T q n))) h
ordered_column T q n (suc b) h =
    let known = All-append (λ x. x.train < suc n) (spots T q n) (column T q n b) (known_below T (suc n) q n (omega arith)) (known_column T (suc n) q n b (omega arith)) in
    subst AreOrdered (append_assoc (spots T q n) (column T q n b) _)
    (ordered_choice n (is_at T q n b) (spots T q n ++ column T q n b) (record { train = n; place = b }) refl known (ordered_column T q n b h))

pub ordered_spots : (T : Table) (q n : ℕ) → AreOrdered (spots T q n)
ordered_spots T q zero = λ i j d lt within. absurd (omega (arith, within))
ordered_spots T q (suc n) = ordered_column T q n (last T n + 1) (ordered_spots T q n)

at_least : (xs : List Spot) (d : Spot) → AreOrdered xs → (j k : ℕ) → j ≤ k → k < length xs → (get_or xs j d).train ≤ (get_or xs k d).train
at_least xs d h j k le lt = elim (cases_eq j k) [
  | inl same ↦ subst (λ (m : ℕ). (get_or xs j d).train ≤ (get_or xs m d).train) same (omega arith)
  | inr other ↦ h j k d (omega arith) lt
]

-- between two of one train all are of it
pub own_between : (i : ℕ) (xs : List Spot) (e : Spot) → AreOrdered xs → 0 < length xs → (get_or xs 0 e).train ≡ i → (get_or xs (length xs - 1) e).train ≡ i →
    All (λ s. s.train ≡ i) xs
own_between i xs e ordered some first end k d lt =
    let low : (get_or xs 0 d).train ≡ i = ap (λ (s : Spot). s.train) (get_or_default xs 0 d e some) ∙ first in
    let high : (get_or xs (length xs - 1) d).train ≡ i = ap (λ (s : Spot). s.train) (get_or_default xs (length xs - 1) d e (omega arith)) ∙ end in
    omega (arith, low, high, at_least xs d ordered 0 k (omega arith) lt, at_least xs d ordered k (length xs - 1) (omega arith) (omega arith))

none_step : (x : Spot) (rest : Option Spot) (b : Bool) → (b ≡ true → ⊥) → rest ≡ None → cond b (Some x) rest ≡ None
none_step x rest true unfit later = absurd (unfit refl)
none_step x rest false unfit later = later

-- where all are of one train, none is its rival
pub own_unrivalled : (B : List Range) (i : ℕ) (xs : List Spot) → All (λ s. s.train ≡ i) xs → find (is_rival B i) xs ≡ None
own_unrivalled B i [] h = refl
own_unrivalled B i (x ∷ xs) h =
    none_step x (find (is_rival B i) xs) (is_rival B i x) (λ e. ((Decides-rival B i x).0 e).0 (All-head (λ s. s.train ≡ i) x xs h))
    (own_unrivalled B i xs (All-tail (λ s. s.train ≡ i) x xs h))
