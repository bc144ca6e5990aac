-- The pairs and the steps of trains, and the levels that steps keep.
use Rattle.std.proofs.Common.{◌≡◌, ℕ, ◌+◌, ◌-◌, ◌<◌, ◌≤◌, List, [], length, Some, true, false, refl, arith, ap, ◌∙◌, sym, subst}
use Rattle.std.specs.Prelude.{All, slice_index, slice_index_or, if◌then◌else◌}
use borrow.Author.Count.{below_more}
use Rattle.std.proofs.lemmas.List.Elements.{All-contains, All-filter, filter_passes}
use Rattle.std.proofs.lemmas.Option.{slice_get_within}
use Rattle.std.proofs.lemmas.List.FromFn.{get_or-map-range_with_len, length-map-range_with_len}
use Rattle.rail_model.specs.Table.{Mission, mission, last, last_of}
use Rattle.rail_model.specs.Checks.{below}
use Rattle.rail_model.proofs.Found.{Among}
use Rattle.rail_model.proofs.Agree.{Decides-same_point}
use Rattle.forbidden_states.specs.Forbid.{unmarked}
use Rattle.forbidden_states.proofs.Members.{map-among, among-filter, flat-among, among-at, below-among}
use Rattle.ring_sections.specs.declared.levels.Step.{Step}
use Rattle.ring_sections.specs.Ring.{Pair, point_at, next_point, train_pairs, pairs}
use Rattle.ring_sections.specs.Search.{IsTrainPlace, ArePointsBelow, stands_at, standing_at, standing}
use Rattle.ring_sections.specs.Levels.{IsStep, IsStepMade, MakesStep, AreStepsBelow, IsStepBelow, IsSettled, AreLevels}
use Rattle.ring_sections.proofs.RingLists.{among-index, pairs-all}

pub among-All : {X : Type 0} (P : X → Type 0) (xs : List X) → ((x : X) → Among xs x → P x) → All P xs
among-All P xs h k d l = h (slice_index_or xs k d) (among-at xs k d l)

pub valid-pairs : (M : List Mission) → All (IsTrainPlace M) (pairs M)
valid-pairs M = among-All (IsTrainPlace M) (pairs M) (λ w a.
    let u = flat-among (λ i. train_pairs i (mission (unmarked M) i)) (below (length M)) w a in
    let v = map-among (λ k. (u.0, k)) (below (last (unmarked M) u.0)) w u.2 in
    subst (IsTrainPlace M) v.2 (below-among (length M) u.0 u.1, below-among (last (unmarked M) u.0) v.0 v.1))

-- a place with a point after it is below the last
below_last : (m : Mission) (k : ℕ) → k + 1 < length m.points → k < last_of m
below_last m k short = elim (m.exits) as (λ b. k < (if b then length m.points else length m.points - 1)) [ true ↦ omega arith | false ↦ omega arith ]

-- the pairs at a point, as they are looked up
pub looked_up : (M : List Mission) (n q : ℕ) (all : List (List Pair)) (here : List Pair) → q < n → all ≡ standing M n → here ≡ slice_index_or all q [] → here ≡ standing_at M q
looked_up M n q all here l is at = at ∙ ap (λ (s : List (List Pair)). slice_index_or s q []) is ∙ get_or-map-range_with_len (standing_at M) 0 n q q [] l (omega arith)

-- a point that is looked up among them
pub point_within : (M : List Mission) (n q : ℕ) (all : List (List Pair)) → q < n → all ≡ standing M n → q < length all
point_within M n q all l is =
    subst (λ (s : List (List Pair)). q < length s) (sym is) (let e : length (standing M n) ≡ n = length-map-range_with_len (standing_at M) 0 n in omega arith)

pub stands-among : (M : List Mission) (q : ℕ) (w : Pair) → IsTrainPlace M w → point_at M w ≡ Some q → Among (standing_at M q) w
stands-among M q w pair at =
    among-filter (stands_at M q) (pairs M) w (pairs-all M w pair.0 pair.1) ((Decides-same_point (point_at M w) (Some q)).1 (q, at, refl))

pub steps-below : (M : List Mission) (n : ℕ) (steps : List Step) → ArePointsBelow M n → All (IsStep M) steps → All (IsStepBelow n) steps
steps-below M n steps points are k d l = let s = are k d l in (points s.0.0 s.0.1 _ s.1, points s.0.0 (s.0.1 + 1) _ s.2)

-- a pair with two points is among those at the first, and its step is made
step-made : (M : List Mission) (n : ℕ) (steps : List Step) (w : Pair) (a b : ℕ) → ArePointsBelow M n → AreStepsBelow M n steps → w.0 < length M → point_at M w ≡ Some a → next_point M w ≡ Some b →
    IsStepMade steps (record { train = w.0; from = a; to = b })
step-made M n steps w a b points are l at next =
    let short : w.1 + 1 < length (mission (unmarked M) w.0).points = slice_get_within (mission (unmarked M) w.0).points (w.1 + 1) b next in
    let pair : IsTrainPlace M w = (l, below_last (mission (unmarked M) w.0) w.1 short) in
    let k = among-index (standing_at M a) w (0, 0) (stands-among M a w pair at) in
    subst (MakesStep M steps a) k.2 (are.all a (points w.0 w.1 a at) k.0 (0, 0) k.1) b next

-- Settled levels, with 0 at the point of the first pair, are levels.
pub settled-levels : (M : List Mission) (n : ℕ) (steps : List Step) (first : Pair) (levels : List ℕ) → ArePointsBelow M n → AreStepsBelow M n steps →
    ((q : ℕ) → point_at M first ≡ Some q → slice_index levels q ≡ 0) → All (IsSettled first.0 levels) steps → AreLevels M first levels
settled-levels M n steps first levels points are goal settled = record {
  goal = goal;
  steps = λ w a b above l at next.
      let made = step-made M n steps w a b points are l at next in
      let here : slice_index levels made.0.from ≤ slice_index levels made.0.to + 1 = All-contains (IsSettled first.0 levels) steps made.0 settled made.1 (omega (arith, above, made.4)) in
      rw (made.2, made.3) at here;
}

-- ---- the steps from one point more

pub all_valid : (M : List Mission) (q : ℕ) (here : List Pair) → here ≡ standing_at M q → All (IsTrainPlace M) here
all_valid M q here is = subst (All (IsTrainPlace M)) (sym is) (All-filter (stands_at M q) (IsTrainPlace M) (pairs M) (valid-pairs M))

pub all_there : (M : List Mission) (q : ℕ) (here : List Pair) → here ≡ standing_at M q → All (λ w. point_at M w ≡ Some q) here
all_there M q here is k d l =
    let stands = subst (All (λ w. stands_at M q w ≡ true)) (sym is) (filter_passes (stands_at M q) (pairs M)) in
    let same = (Decides-same_point (point_at M (slice_index_or here k d)) (Some q)).0 (stands k d l) in
    same.1 ∙ sym same.2

pub made_more : (M : List Mission) (before after : List Step) (n : ℕ) (here : List Pair) → ((s : Step) → IsStepMade before s → IsStepMade after s) →
    ((q : ℕ) → q < n → All (MakesStep M before q) (standing_at M q)) → here ≡ standing_at M n → All (MakesStep M after n) here →
    (q : ℕ) → q < n + 1 → All (MakesStep M after q) (standing_at M q)
made_more M before after n here kept so_far is now =
    below_more (λ q. All (MakesStep M after q) (standing_at M q)) n (λ q l k d m b next. kept _ (so_far q l k d m b next)) (subst (All (MakesStep M after n)) is now)
