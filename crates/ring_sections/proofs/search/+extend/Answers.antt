use Rattle.std.proofs.Common.{◌≡◌, ◌-◌, ◌<◌, ℕ, List, [], ◌∷◌, ◌++◌, length, length-append, append-nil, Some, ap, ◌∙◌, subst, sym, arith, slice_index_or}
use Rattle.std.specs.Prelude.{All, flat_map}
use Rattle.std.proofs.lemmas.List.{get_or_default}
use Rattle.std.proofs.lemmas.List.Elements.{All-nil, All-cons, All-append}
use Rattle.rail_model.specs.Table.{Mission}
use Rattle.ring_sections.specs.Ring.{Pair, pair_at, next_point}
use Rattle.ring_sections.specs.Search.{IsTrainPlace, own_ring, rings_from, standing_at}
use Rattle.ring_sections.specs.Levels.{IsChart}
use Rattle.ring_sections.proofs.Begun.{at_old}
use Rattle.ring_sections.proofs.LeadingBack.{too_far}
use Rattle.ring_sections.proofs.Pruned.{none_behind_taken, rings_from-zero, none_wanted, rings_from-standing}
use Rattle.ring_sections.proofs.Adding.{adds_none, adds_err, Fails, own_first, added_more, added_all, failed_part}
use Rattle.ring_sections.proofs.StepLists.{looked_up, point_within, all_valid, all_there}
use Rattle.ring_sections.proofs.search.+extend.Goals as goal
use Rattle.ring_sections.proofs.search.+extend.Goals.{then-branch+in_ok-way+in_ok-extend, else-branch, then-left-eq0-via-then-left-eq0, then-left-eq0-via-else-left-eq0+then-is_taken}

-- the pairs at the wanted point are those that are looked up
module _ (M : List Mission) (r : List Pair) (wanted : ℕ) (all : List (List Pair)) (high : List ℕ) (here : List Pair) (chart : IsChart M all high (pair_at r 0))
    (wants : next_point M (pair_at r (length r - 1)) ≡ Some wanted) (at : here ≡ slice_index_or all wanted []) where
  here_is : here ≡ standing_at M wanted
  here_is = looked_up M (length high) wanted all here (chart.points _ _ wanted wants) chart.places at

  -- one pair more
  valid_longer : (longer : List Pair) (k : ℕ) → All (IsTrainPlace M) r → k < length here → longer ≡ r ++ slice_index_or here k (0, 0) ∷ [] → All (IsTrainPlace M) longer
  valid_longer longer k valid l same =
      let one = All-cons (IsTrainPlace M) (slice_index_or here k (0, 0)) [] (all_valid M wanted here here_is k (0, 0) l) (All-nil (IsTrainPlace M)) in
      subst (All (IsTrainPlace M)) (sym same) (All-append (IsTrainPlace M) r (slice_index_or here k (0, 0) ∷ []) valid one)

  -- the circular waits, by the pairs that were looked up
  by_here : (n : ℕ) → 0 < n → 0 < length r → rings_from M r n ≡ own_ring M r ++ flat_map (λ w. rings_from M (r ++ w ∷ []) (n - 1)) here
  by_here n more some = rings_from-standing M r some n wanted more wants ∙ ap (λ ws. own_ring M r ++ flat_map (λ w. rings_from M (r ++ w ∷ []) (n - 1)) ws) (sym here_is)

pub returns-in_default : goal.returns-in_default
returns-in_default t c =
    adds_none c.args.found.now.items (rings_from c.args.chart.now.missions.now c.args.way.now c.args.left)
    (none_wanted c.args.chart.now.missions.now c.args.way.now c.requires.some c.args.left (sym c.next_point_of.ensures ∙ c.in_default.is)) c.requires.few

pub returns-then-chart-wanted : goal.returns-then-chart-wanted
returns-then-chart-wanted t c =
    adds_none c.args.found.now.items (rings_from c.args.chart.now.missions.now c.args.way.now c.args.left)
    (too_far c.args.chart.now.missions.now c.args.chart.now.levels.now c.args.way.now c.args.left c.in-Some.wanted c.requires.chart.levels c.requires.some
    (sym c.next_point_of.ensures ∙ c.in-Some.is) c.if-chart-wanted.true)
    c.requires.few

pub returns-in_err-keep_ring : goal.returns-in_err-keep_ring
returns-in_err-keep_ring t c =
    let o = own_first c.args.chart.now.missions.now c.args.way.now c.args.left in
    adds_err c.args.found.now.items c.keep_ring.new.found.items (own_ring c.args.chart.now.missions.now c.args.way.now) o.0
    (rings_from c.args.chart.now.missions.now c.args.way.now c.args.left) c.from_residual.result c.in_err-keep_ring.field-0.0
    c.from_residual.ensures.1 o.1 c.in_err-keep_ring.ensures

pub returns-then-left-eq0 : goal.returns-then-left-eq0
returns-then-left-eq0 t c =
    let M = c.args.chart.now.missions.now in
    let r = c.args.way.now in
    let own : rings_from M r c.args.left ≡ own_ring M r =
    (elim c.then-left-eq0.branch [
      | then-left-eq0-via-then-left-eq0 w ↦ ap (rings_from M r) w.if-left-eq0.true ∙ rings_from-zero M r
      | then-left-eq0-via-else-left-eq0+then-is_taken w ↦
          none_behind_taken M r c.requires.some c.args.left c.in-Some.wanted (sym c.next_point_of.ensures ∙ c.in-Some.is)
          (w.is_taken.ensures.0 w.if-is_taken.true)
    ]) in
    (c.in_ok-keep_ring.ensures.0 ∙ ap (λ (vs : List (List Pair)). c.args.found.now.items ++ vs) (sym own), c.in_ok-keep_ring.ensures.1)

pub at-next-items-requires : goal.at-next-items-requires
at-next-items-requires t c =
    point_within c.args.chart.now.missions.now (length c.args.chart.now.levels.now) c.in-Some.wanted c.args.chart.now.standing.now
    (c.requires.chart.points _ _ c.in-Some.wanted (sym c.next_point_of.ensures ∙ c.in-Some.is)) c.requires.chart.places

pub may_follow-requires-clause-next : goal.may_follow-requires-clause-next
may_follow-requires-clause-next t c =
    let is = here_is _ c.args.way.now _ _ _ _ c.requires.chart (sym c.next_point_of.ensures ∙ c.in-Some.is) c.at-next-items.ensures in
    all_valid c.args.chart.now.missions.now c.in-Some.wanted c.at-next-items.result.now is c.loop-next.next-index (0, 0) c.loop-next-test.true

pub may_follow-requires-clause-stands : goal.may_follow-requires-clause-stands
may_follow-requires-clause-stands t c =
    let is = here_is _ c.args.way.now _ _ _ _ c.requires.chart (sym c.next_point_of.ensures ∙ c.in-Some.is) c.at-next-items.ensures in
    all_there c.args.chart.now.missions.now c.in-Some.wanted c.at-next-items.result.now is c.loop-next.next-index (0, 0) c.loop-next-test.true

pub extend-requires : goal.extend-requires
extend-requires t c =
    let r = c.args.way.now in
    let w : Pair = slice_index_or c.at-next-items.result.now c.loop-next.next-index (0, 0) in
    let longer : c.deref.result.now ≡ r ++ w ∷ [] = c.deref.ensures.value ∙ c.in_ok-way.ensures in
    let first : pair_at c.deref.result.now 0 ≡ pair_at r 0 = ap (λ (rs : List Pair). pair_at rs 0) longer ∙ at_old r (w ∷ []) 0 c.requires.some in
    let chart = subst (λ (v : Pair). IsChart c.args.chart.now.missions.now c.args.chart.now.standing.now c.args.chart.now.levels.now v) (sym first) c.requires.chart in
    let some = subst (λ (rs : List Pair). 0 < length rs) (sym longer) (omega (arith, length-append r (w ∷ []))) in
    let valid = valid_longer _ r _ _ _ _ c.requires.chart (sym c.next_point_of.ensures ∙ c.in-Some.is) c.at-next-items.ensures c.deref.result.now c.loop-next.next-index c.requires.way c.loop-next-test.true longer in
    (omega (arith, c.decreases), (chart, (some, (valid, c.loop-next.invariant.few))))

pub returns-in_err-extend : goal.returns-in_err-extend
returns-in_err-extend t c =
    let M = c.args.chart.now.missions.now in
    let r = c.args.way.now in
    let here = c.at-next-items.result.now in
    let k = c.loop-next.next-index in
    let w : Pair = slice_index_or here k (0, 0) in
    failed_part (λ v. rings_from M (r ++ v ∷ []) (c.args.left - 1)) here k w c.loop-next-test.true (get_or_default here k (0, 0) w c.loop-next-test.true)
    c.args.found.now.items (own_ring M r) c.loop-next.found.items c.loop-next.invariant.found c.extend.new.found.items (rings_from M r c.args.left)
    c.from_residual-in_err-extend.result c.in_err-extend.field-0.0
    (by_here _ r _ _ _ _ c.requires.chart (sym c.next_point_of.ensures ∙ c.in-Some.is) c.at-next-items.ensures c.args.left (omega arith) c.requires.some)
    c.from_residual-in_err-extend.ensures.1
    (subst (λ (rs : List Pair). Fails (c.loop-next.found.items ++ rings_from M rs (c.args.left - 1)) c.in_err-extend.field-0.0) (c.deref.ensures.value ∙ c.in_ok-way.ensures) c.in_err-extend.ensures)

pub loop-next-preserved : goal.loop-next-preserved
loop-next-preserved t c =
    let M = c.args.chart.now.missions.now in
    let r = c.args.way.now in
    let here = c.at-next-items.result.now in
    let w : Pair = slice_index_or here c.loop-next.next-index (0, 0) in
    let same : w ≡ slice_index_or here c.loop-next.next-index w = get_or_default here c.loop-next.next-index (0, 0) w c.loop-next-test.true in
    let more = added_more (λ v. rings_from M (r ++ v ∷ []) (c.args.left - 1)) here c.loop-next.next-index w c.loop-next-test.true same
    c.args.found.now.items (own_ring M r) c.loop-next.found.items c.loop-next.invariant.found in
    elim c.if-branch.branch [
      | then-branch+in_ok-way+in_ok-extend v ↦
          let longer : v.deref.result.now ≡ r ++ w ∷ [] = v.deref.ensures.value ∙ v.in_ok-way.ensures in
          rw v.found-is (record {
            found = more v.extend.new.found.items (rings_from M v.deref.result.now (c.args.left - 1)) v.in_ok-extend.ensures.0 (ap (λ (rs : List Pair). rings_from M rs (c.args.left - 1)) longer);
            few = v.in_ok-extend.ensures.1;
            lost = c.in_ok-may_follow.ensures.lost;
          })
      | else-branch v ↦ rw v.found-is (record {
        found = more c.loop-next.found.items [] (sym (append-nil c.loop-next.found.items)) (sym (c.in_ok-may_follow.ensures.answer v.if-branch.false));
        few = c.loop-next.invariant.few;
        lost = c.in_ok-may_follow.ensures.lost;
      })
    ]

pub returns : goal.returns
returns t c =
    let M = c.args.chart.now.missions.now in
    let r = c.args.way.now in
    let whole = by_here _ r _ _ _ _ c.requires.chart (sym c.next_point_of.ensures ∙ c.in-Some.is) c.at-next-items.ensures c.args.left (omega arith) c.requires.some in
    let all = added_all (λ v. rings_from M (r ++ v ∷ []) (c.args.left - 1)) c.at-next-items.result.now c.loop-next.next-index c.args.found.now.items (own_ring M r) c.loop-next.found.items
    (rings_from M r c.args.left) (omega arith) c.loop-next.invariant.found whole in
    (all, c.loop-next.invariant.few)
