-- A repair has one answer.
use Rattle.std.proofs.Common.{◌≡◌, ℕ, ◌+◌, ◌<◌, ◌≤◌, List, [], ◌∷◌, length, arith, ap, subst}
use Rattle.rail_model.specs.Table.{Mission}
use Rattle.cert_maker.specs.declared.made.Made.TheVariants.{Cert as cert, Stuck as found, Spent as spent}
use Rattle.cert_maker.specs.Rule.{Makes}
use Rattle.cert_maker.proofs.Spelled.{makes_one}
use Rattle.forbidden_states.specs.Forbid.{Stay, marked}
use Rattle.section_repair.specs.declared.repaired.Repair.{Repair}
use Rattle.section_repair.specs.declared.repaired.Repair.TheVariants.{Done, Spent, Rounds, Many}
use Rattle.section_repair.specs.Repairs.{treated, Treats, Repairs}
use Rattle.section_repair.specs.Claims.{RepairIsUnique}

-- With these sections, after this number of rounds, the repair ends with this answer.
abbrev Stops : List Mission → ℕ → ℕ → ℕ → List (List Stay) → Repair → Type 0
Stops M budget rounds used S (Done T c n) = (T ≡ marked M S) × (n ≡ used) × (used ≤ rounds) × Makes (marked M S) budget (cert c)
Stops M budget rounds used S (Spent T n) = (T ≡ marked M S) × (used ≤ rounds) × Makes (marked M S) budget (spent n)
Stops M budget rounds used S (Rounds T n at) = (T ≡ marked M S) × (n ≡ rounds) × (used ≡ rounds) × Makes (marked M S) budget (found at)
Stops M budget rounds used S (Many T n) =
    (T ≡ marked M S) × (used < rounds) × ((p : List ℕ) × Makes (marked M S) budget (found p) × (n ≡ length (treated M S p)) × (64 < n))

within : (M : List Mission) (budget rounds used : ℕ) (S : List (List Stay)) (x : Repair) → Stops M budget rounds used S x → used ≤ rounds
within M budget rounds used S (Done T c n) s = s.2
within M budget rounds used S (Spent T n) s = s.1
within M budget rounds used S (Rounds T n at) s = omega (arith, s.2)
within M budget rounds used S (Many T n) s = omega (arith, s.1)

stops_once : (M : List Mission) (budget rounds used : ℕ) (S : List (List Stay)) (x y : Repair) → Stops M budget rounds used S x → Stops M budget rounds used S y → x ≡ y
stops_once M budget rounds used S (Done T c n) (Done U d m) s t = let e = makes_one (marked M S) budget (cert c) (cert d) s.3 t.3 in cc
stops_once M budget rounds used S (Done T c n) (Spent U m) s t = let e = makes_one (marked M S) budget (cert c) (spent m) s.3 t.2 in cc
stops_once M budget rounds used S (Done T c n) (Rounds U m at) s t = let e = makes_one (marked M S) budget (cert c) (found at) s.3 t.3 in cc
stops_once M budget rounds used S (Done T c n) (Many U m) s t = let e = makes_one (marked M S) budget (cert c) (found t.2.0) s.3 t.2.1 in cc
stops_once M budget rounds used S (Spent T n) (Done U d m) s t = let e = makes_one (marked M S) budget (spent n) (cert d) s.2 t.3 in cc
stops_once M budget rounds used S (Spent T n) (Spent U m) s t = let e = makes_one (marked M S) budget (spent n) (spent m) s.2 t.2 in cc
stops_once M budget rounds used S (Spent T n) (Rounds U m at) s t = let e = makes_one (marked M S) budget (spent n) (found at) s.2 t.3 in cc
stops_once M budget rounds used S (Spent T n) (Many U m) s t = let e = makes_one (marked M S) budget (spent n) (found t.2.0) s.2 t.2.1 in cc
stops_once M budget rounds used S (Rounds T n at) (Done U d m) s t = let e = makes_one (marked M S) budget (found at) (cert d) s.3 t.3 in cc
stops_once M budget rounds used S (Rounds T n at) (Spent U m) s t = let e = makes_one (marked M S) budget (found at) (spent m) s.3 t.2 in cc
stops_once M budget rounds used S (Rounds T n at) (Rounds U m p) s t = let e = makes_one (marked M S) budget (found at) (found p) s.3 t.3 in cc
stops_once M budget rounds used S (Rounds T n at) (Many U m) s t = absurd (omega (arith, s.2, t.1))
stops_once M budget rounds used S (Many T n) (Done U d m) s t = let e = makes_one (marked M S) budget (found s.2.0) (cert d) s.2.1 t.3 in cc
stops_once M budget rounds used S (Many T n) (Spent U m) s t = let e = makes_one (marked M S) budget (found s.2.0) (spent m) s.2.1 t.2 in cc
stops_once M budget rounds used S (Many T n) (Rounds U m at) s t = absurd (omega (arith, t.2, s.1))
stops_once M budget rounds used S (Many T n) (Many U m) s t =
    let e = makes_one (marked M S) budget (found s.2.0) (found t.2.0) s.2.1 t.2.1 in
    let p : s.2.0 ≡ t.2.0 = cc in
    let k : length (treated M S s.2.0) ≡ length (treated M S t.2.0) = ap (λ q. length (treated M S q)) p in
    let f : n ≡ length (treated M S s.2.0) = s.2.2 in
    let g : m ≡ length (treated M S t.2.0) = t.2.2 in
    cc

-- only few sections are treated further, or stood at the end
few_from : (M : List Mission) (budget : ℕ) (states : List (List ℕ)) (S end : List (List Stay)) → Treats M budget S states end → length end ≤ 64 → length S ≤ 64
few_from M budget [] S end t few = subst (λ v. length v ≤ 64) t few
few_from M budget (p ∷ later) S end t few = t.0

-- where a repair stops, no other treats a further state
no_more : (M : List Mission) (budget rounds used more : ℕ) (S : List (List Stay)) (x : Repair) (q : List ℕ) → Stops M budget rounds used S x →
    Makes (marked M S) budget (found q) → length (treated M S q) ≤ 64 → used < more → more ≤ rounds → ⊥
no_more M budget rounds used more S (Done T c n) q s makes few less most = let e = makes_one (marked M S) budget (cert c) (found q) s.3 makes in cc
no_more M budget rounds used more S (Spent T n) q s makes few less most = let e = makes_one (marked M S) budget (spent n) (found q) s.2 makes in cc
no_more M budget rounds used more S (Rounds T n at) q s makes few less most = omega (arith, s.2)
no_more M budget rounds used more S (Many T n) q s makes few less most =
    let e = makes_one (marked M S) budget (found s.2.0) (found q) s.2.1 makes in
    let p : s.2.0 ≡ q = cc in
    let k : length (treated M S s.2.0) ≡ length (treated M S q) = ap (λ r. length (treated M S r)) p in
    omega (arith, s.2.2, s.2.3)

-- An answer that is reached from these sections by some further rounds.
record Ends (M : List Mission) (budget rounds used : ℕ) (S : List (List Stay)) (states : List (List ℕ)) (x : Repair) : Type 0 where
  end : List (List Stay)
  treats : Treats M budget S states end
  few : length end ≤ 64
  stops : Stops M budget rounds (used + length states) end x

stops_here : (M : List Mission) (budget rounds used : ℕ) (S : List (List Stay)) (x : Repair) → Ends M budget rounds used S [] x → Stops M budget rounds used S x
stops_here M budget rounds used S x h =
    let z : used + 0 ≡ used = omega arith in
    subst (λ v. Stops M budget rounds v S x) z (subst (λ v. Stops M budget rounds (used + 0) v x) h.treats h.stops)

later_ends : (M : List Mission) (budget rounds used : ℕ) (S : List (List Stay)) (q : List ℕ) (later : List (List ℕ)) (x : Repair) →
    Ends M budget rounds used S (q ∷ later) x → Ends M budget rounds (used + 1) (treated M S q) later x
later_ends M budget rounds used S q later x h =
    let z : used + length (q ∷ later) ≡ used + 1 + length later = omega arith in
    record { end = h.end; treats = h.treats.2; few = h.few; stops = subst (λ v. Stops M budget rounds v h.end x) z h.stops }

not_both : (M : List Mission) (budget rounds used : ℕ) (S : List (List Stay)) (q : List ℕ) (later : List (List ℕ)) (x y : Repair) →
    Ends M budget rounds used S [] x → Ends M budget rounds used S (q ∷ later) y → ⊥
not_both M budget rounds used S q later x y h k =
    let n : Ends M budget rounds (used + 1) (treated M S q) later y = later_ends M budget rounds used S q later y k in
    no_more M budget rounds used (used + length (q ∷ later)) S x q (stops_here M budget rounds used S x h) k.treats.1
    (few_from M budget later (treated M S q) n.end n.treats n.few) (omega arith) (within M budget rounds (used + length (q ∷ later)) k.end y k.stops)

ends_once : (M : List Mission) (budget rounds used : ℕ) (S : List (List Stay)) (ps qs : List (List ℕ)) (x y : Repair) →
    Ends M budget rounds used S ps x → Ends M budget rounds used S qs y → x ≡ y
ends_once M budget rounds used S [] [] x y h k = stops_once M budget rounds used S x y (stops_here M budget rounds used S x h) (stops_here M budget rounds used S y k)
ends_once M budget rounds used S [] (q ∷ qs) x y h k = absurd (not_both M budget rounds used S q qs x y h k)
ends_once M budget rounds used S (p ∷ ps) [] x y h k = absurd (not_both M budget rounds used S p ps y x k h)
ends_once M budget rounds used S (p ∷ ps) (q ∷ qs) x y h k =
    let e = makes_one (marked M S) budget (found p) (found q) h.treats.1 k.treats.1 in
    let same : p ≡ q = cc in
    ends_once M budget rounds (used + 1) (treated M S q) ps qs x y
    (subst (λ v. Ends M budget rounds (used + 1) (treated M S v) ps x) same (later_ends M budget rounds used S p ps x h))
    (later_ends M budget rounds used S q qs y k)

-- An answer of a repair is reached from no section.
record IsEnd (M : List Mission) (budget rounds : ℕ) (x : Repair) : Type 0 where
  states : List (List ℕ)
  ends : Ends M budget rounds 0 [] states x

ended : (M : List Mission) (budget rounds : ℕ) (x : Repair) (states : List (List ℕ)) (S : List (List Stay)) → Treats M budget [] states S → length S ≤ 64 →
    Stops M budget rounds (length states) S x → IsEnd M budget rounds x
ended M budget rounds x states S t few s =
    let z : length states ≡ 0 + length states = omega arith in
    record { states = states; ends = record { end = S; treats = t; few = few; stops = subst (λ v. Stops M budget rounds v S x) z s } }

repair_ends : (M : List Mission) (budget rounds : ℕ) (x : Repair) → Repairs M budget rounds x → IsEnd M budget rounds x
repair_ends M budget rounds (Done T c n) h =
    ended M budget rounds (Done T c n) h.0 h.1 h.2.treats h.2.few (h.2.table, h.3, omega (arith, h.3, h.4), subst (λ v. Makes v budget (cert c)) h.2.table h.5)
repair_ends M budget rounds (Spent T n) h =
    ended M budget rounds (Spent T n) h.0 h.1 h.2.treats h.2.few (h.2.table, h.3, subst (λ v. Makes v budget (spent n)) h.2.table h.4)
repair_ends M budget rounds (Rounds T n at) h =
    ended M budget rounds (Rounds T n at) h.0 h.1 h.2.treats h.2.few (h.2.table, h.4, h.3, subst (λ v. Makes v budget (found at)) h.2.table h.5)
repair_ends M budget rounds (Many T n) h =
    ended M budget rounds (Many T n) h.0 h.1 h.2.treats h.2.few
    (h.2.table, h.3, (h.4.0, subst (λ v. Makes v budget (found h.4.0)) h.2.table h.4.1, h.4.2, h.4.3))

pub repair_is_unique : RepairIsUnique
repair_is_unique M budget rounds x y h k =
    let u : IsEnd M budget rounds x = repair_ends M budget rounds x h in
    let v : IsEnd M budget rounds y = repair_ends M budget rounds y k in
    ends_once M budget rounds 0 [] u.states v.states x y u.ends v.ends
