use Rattle.std.proofs.Common.{◌≤◌, take, ◌≡◌, ◌-◌, ◌<◌, ℕ, zero, suc, List, [], ◌∷◌, length, ap, ◌∙◌, subst, sym, arith, slice_index_or, ◌⊎◌, ◌+◌, true, false, ◌++◌, drop, inl, inr}
use Rattle.std.specs.Prelude.{All, flat_map, slice_index_or, nat_lt, Ok, Err}
use Rattle.std.proofs.lemmas.List.{take_all, get_or_default}
use Rattle.std.proofs.lemmas.List.FromFn.{length-map-range_with_len}
use Rattle.rail_model.specs.Table.{Mission}
use Rattle.rail_model.proofs.Firsts.{Answers-err}
use Rattle.ring_sections.specs.declared.refused.Rings.TheVariants.{Memory, Many}
use Rattle.ring_sections.specs.Ring.{Pair, IsRing, pairs, rings}
use Rattle.ring_sections.specs.Search.{IsTrainPlace, ArePointsBelow, rings_from, standing_at, standing}
use Rattle.ring_sections.specs.Answer.{all_rings}
use Rattle.ring_sections.proofs.Pruned.{rings-by_first}
use Rattle.ring_sections.proofs.RingLists.{all-rings}
use Rattle.ring_sections.proofs.StepLists.{valid-pairs}
use Rattle.std.specs.Bool.{then_some}
use Rattle.std.proofs.lemmas.Bool.{lt-ltb, le-ltb}
use Rattle.rail_model.specs.Turns.{unless}
use Rattle.ring_sections.specs.declared.refused.Rings.{Rings}
use Rattle.ring_sections.proofs.Adding.{Fails, more-fail, flat-split}
use Rattle.ring_sections.proofs.search.rings.Goals as goal

-- What came of the whole: it is all that there is, or there was an error on the way.
answer_ok : (M : List Mission) (most : ℕ) (found : List (List Pair)) → found ≡ rings M most → length found ≤ 64 → all_rings M most ≡ Ok found
answer_ok M most found all few =
    let n : length found ≡ length (rings M most) = ap length all in
    let fits : nat_lt 64 (length (rings M most)) ≡ false = le-ltb 64 (length (rings M most)) (omega arith) in
    ap (λ b. unless (then_some b (Many 65)) (rings M most)) fits ∙ ap Ok (sym all)

answer_fails : (M : List Mission) (most : ℕ) (e : Rings) → Fails (rings M most) e → (e ≡ Memory) ⊎ (all_rings M most ≡ Err e)
answer_fails M most e fails = elim fails [
  | inl memory ↦ inl memory
  | inr many ↦
      let more : nat_lt 64 (length (rings M most)) ≡ true = lt-ltb 64 (length (rings M most)) many.1 in
      inr (ap (λ b. unless (then_some b (Many 65)) (rings M most)) more ∙ ap Err (sym many.0))
]

-- an error came while the waits from a pair were added
failed_from : (f : Pair → List (List Pair)) (ws : List Pair) (k : ℕ) (w : Pair) (before whole : List (List Pair)) (e : Rings) → k < length ws → w ≡ slice_index_or ws k w →
    before ≡ flat_map f (take k ws) → whole ≡ flat_map f ws → Fails (before ++ f w) e → Fails whole e
failed_from f ws k w before whole e l at so_far split fails =
    subst (λ v. Fails v e) (ap (λ v. (v ++ f w) ++ flat_map f (drop (k + 1) ws)) so_far ∙ sym (split ∙ flat-split f ws k w l at))
    (more-fail e (before ++ f w) (flat_map f (drop (k + 1) ws)) fails)

-- the circular waits, by the first pair
by_pairs : (M : List Mission) (n : ℕ) (ws : List Pair) → 0 < n → ws ≡ pairs M → rings M n ≡ flat_map (λ w. rings_from M (w ∷ []) (n - 1)) ws
by_pairs M zero ws some is = absurd (omega arith)
by_pairs M (suc n) ws some is =
    rings-by_first M n ∙ ap (λ m. flat_map (λ w. rings_from M (w ∷ []) m) (pairs M)) (let e : n ≡ suc n - 1 = omega arith in e)
    ∙ ap (λ vs. flat_map (λ w. rings_from M (w ∷ []) (suc n - 1)) vs) (sym is)

-- so many points have pairs looked up
module _ (M : List Mission) (n : ℕ) (all : List (List Pair)) (is : all ≡ standing M n) where
  size_is : n ≡ length all
  size_is = sym (ap length is ∙ length-map-range_with_len (standing_at M) 0 n)

  own_size : all ≡ standing M (length all)
  own_size = is ∙ ap (standing M) size_is

pub steps_of-requires-clause-standing : goal.steps_of-requires-clause-standing
steps_of-requires-clause-standing c = own_size c.args.missions.now _ _ c.in_ok-standing.ensures

pub steps_of-requires-clause-few : goal.steps_of-requires-clause-few
steps_of-requires-clause-few c = omega (arith, c.size_of-size.ensures.most, size_is c.args.missions.now _ _ c.in_ok-standing.ensures)

pub add_from-requires-clause-points : goal.add_from-requires-clause-points
add_from-requires-clause-points c = subst (ArePointsBelow c.args.missions.now) (size_is c.args.missions.now _ _ c.in_ok-standing.ensures) c.size_of-size.ensures.points

pub add_from-requires-clause-standing : goal.add_from-requires-clause-standing
add_from-requires-clause-standing c = own_size c.args.missions.now _ _ c.in_ok-standing.ensures

pub add_from-requires-clause-first : goal.add_from-requires-clause-first
add_from-requires-clause-first c =
    subst (λ (ws : List Pair). All (IsTrainPlace c.args.missions.now) ws) (sym (c.deref-first-items.ensures.value ∙ c.in_ok-pairs.ensures)) (valid-pairs c.args.missions.now)
    c.loop-first.first-index (0, 0) c.loop-first-test.true

pub returns-in_err-add_from-clause-rings : goal.returns-in_err-add_from-clause-rings
returns-in_err-add_from-clause-rings c =
    let M = c.args.missions.now in
    let ws = c.deref-first-items.result.now in
    let k = c.loop-first.first-index in
    let w : Pair = slice_index_or ws k (0, 0) in
    let e = c.in_err-add_from.field-0.0 in
    Answers-err Memory (λ found. found.items) c.from_residual-in_err-add_from.result (all_rings M c.args.most) e c.from_residual-in_err-add_from.ensures.1
    (answer_fails M c.args.most e
    (failed_from (λ v. rings_from M (v ∷ []) (c.args.most - 1)) ws k w c.loop-first.found.items (rings M c.args.most) e
    c.loop-first-test.true (get_or_default ws k (0, 0) w c.loop-first-test.true) c.loop-first.invariant.found
    (by_pairs M c.args.most ws (omega arith) (c.deref-first-items.ensures.value ∙ c.in_ok-pairs.ensures))
    c.in_err-add_from.ensures))

-- after the last pair all of them are found
all_found : (M : List Mission) (n k : ℕ) (ws : List Pair) (found : List (List Pair)) → 0 < n → length ws ≤ k → ws ≡ pairs M →
    found ≡ flat_map (λ w. rings_from M (w ∷ []) (n - 1)) (take k ws) → found ≡ rings M n
all_found M n k ws found some past is so_far =
    so_far ∙ ap (λ (vs : List Pair). flat_map (λ w. rings_from M (w ∷ []) (n - 1)) vs) (take_all k ws past) ∙ sym (by_pairs M n ws some is)

pub returns-clause-rings : goal.returns-clause-rings
returns-clause-rings c =
    let ws = c.deref-first-items.ensures.value ∙ c.in_ok-pairs.ensures in
    answer_ok c.args.missions.now c.args.most c.loop-first.found.items
    (all_found c.args.missions.now c.args.most c.loop-first.first-index _ _ (omega arith) (omega arith) ws c.loop-first.invariant.found) c.loop-first.invariant.few

pub returns-clause-each : goal.returns-clause-each
returns-clause-each c =
    let ws = c.deref-first-items.ensures.value ∙ c.in_ok-pairs.ensures in
    subst (All (IsRing c.args.missions.now)) (sym (all_found c.args.missions.now c.args.most c.loop-first.first-index _ _ (omega arith) (omega arith) ws c.loop-first.invariant.found))
    (all-rings c.args.missions.now c.args.most)
