-- What is lost, step by step; and a circular wait's later pairs lead back.
use Rattle.std.proofs.Common.{◌≡◌, ◌≢◌, refl, ℕ, suc, ◌+◌, ◌-◌, ◌<◌, ◌≤◌, List, [], ◌∷◌, ◌++◌, length, length-append, append-nil, append_assoc, Some, None, arith, ap, ◌∙◌, inl, inr, subst, sym}
use Rattle.std.specs.Prelude.{All, slice_index, slice_index_or}
use Rattle.std.proofs.lemmas.List.{get_or_default, get_or-append-add}
use Rattle.std.proofs.lemmas.List.Elements.{All-contains}
use Rattle.std.proofs.lemmas.Option.{same_Some}
use Rattle.rail_model.specs.Table.{Mission}
use Rattle.rail_model.proofs.Found.{Among}
use Rattle.ring_sections.specs.declared.leading.Reach.{Reach}
use Rattle.ring_sections.specs.declared.train_set.TrainSet.{TrainSet}
use Rattle.ring_sections.specs.Ring.{Pair, IsRing, pair_at, point_at, next_point}
use Rattle.ring_sections.specs.Search.{IsPointTaken, standing_at, rings_from}
use Rattle.ring_sections.specs.Levels.{AreLevels}
use Rattle.ring_sections.specs.Leading.{HasTrain, MayBeAt, LeadsBack, IsLost, IsLostBy, IsBehind, IsCovered}
use Rattle.ring_sections.proofs.RingLists.{among-index}
use Rattle.ring_sections.proofs.StepLists.{stands-among}
use Rattle.ring_sections.proofs.TrainSets.{count_all}
use Rattle.ring_sections.proofs.Begun.{at_old, at_new, at_end, Decides-fits, next_valid, next_fits, next_stands, none_behind, waits_for_first, wants_some, regrouped}
use Rattle.ring_sections.proofs.Pruned.{none_from, none_wanted}

-- the later pairs are of other trains
others : (M : List Mission) (r : List Pair) (w : Pair) (later : List Pair) → IsRing M (r ++ w ∷ later) → All (λ v. v.0 ≢ w.0) later
others M r w later ring k d l same =
    let m : length (r ++ w ∷ later) ≡ length r + suc (length later) = length-append r (w ∷ later) in
    ring.one_each (length r) (length r + suc k) (omega arith) (omega arith)
    (ap (λ (v : Pair). v.0) (at_new r w later) ∙ sym same ∙ ap (λ (v : Pair). v.0) (get_or_default later k d (0, 0) l ∙ sym (get_or-append-add r (w ∷ later) (suc k) (0, 0))))

module _ (M : List Mission) (way : List Pair) (shut : ℕ) where
  -- ---- points from which nothing leads back

  -- The level of a point is at most the number of pairs that lead back from it.
  level_leads : (levels : List ℕ) → AreLevels M (pair_at way 0) levels → (later : List Pair) (q : ℕ) → LeadsBack M way shut q later → slice_index levels q ≤ length later
  level_leads levels are [] q leads = let z = are.goal q leads in omega arith
  level_leads levels are (w ∷ later) q leads =
      let may = leads.0 in
      let above : (pair_at way 0).0 < w.0 = ((Decides-fits way w).0 may.fits).0 in
      let step = are.steps w q leads.2.0 above may.pair.0 may.stands leads.2.1 in
      let rest = level_leads levels are later leads.2.0 leads.2.2 in
      omega arith

  module _ (from : Reach) where
    pub lost_far : (levels : List ℕ) → AreLevels M (pair_at way 0) levels → from.left < slice_index levels from.point → IsLost M way shut from
    lost_far levels are far later short leads avoid = let low = level_leads levels are later from.point leads in omega arith

    pub lost_covered : (known : List Reach) (hit : TrainSet) → All (IsLost M way shut) known → IsCovered known from hit from.left → IsLost M way shut from
    lost_covered known hit lost covered later short leads avoid =
        let n = count_all hit later in
        let u = covered later (omega arith) avoid in
        All-contains (IsLost M way shut) known u.0 lost u.1 later (omega (arith, u.2.1)) (subst (λ q. LeadsBack M way shut q later) (sym u.2.0) leads) u.3

    -- where nothing leads back from what is reached by the pair
    pub lost_behind : (behind : Reach) (w : Pair) → IsBehind M from w behind → IsLost M way shut behind → IsLostBy M way shut from w
    lost_behind behind w is lost later short leads avoid =
        let same : leads.2.0 ≡ behind.point = same_Some leads.2.0 behind.point (sym leads.2.1 ∙ is.point) in
        lost later (omega (arith, is.left)) (subst (λ q. LeadsBack M way shut q later) same leads.2.2)
        (λ k d l has. elim (is.used (slice_index_or later k d).0 has) [ inl old ↦ avoid (suc k) d (omega arith) old | inr new ↦ leads.1 k d l new ])

    module _ (away : point_at M (pair_at way 0) ≡ Some from.point → ⊥) where
      -- where nothing leads back by any first pair
      lost_each : ((w : Pair) → IsLostBy M way shut from w) → IsLost M way shut from
      lost_each each [] short leads avoid = away leads
      lost_each each (w ∷ later) short leads avoid = each w later (omega arith) leads avoid

      pub lost_none_left : from.left ≡ 0 → IsLost M way shut from
      lost_none_left none = lost_each (λ w later short leads avoid. absurd (omega arith))

      pub lost_shut : from.point ≡ shut → IsLost M way shut from
      lost_shut is = lost_each (λ w later short leads avoid. leads.0.open_point is)

      pub lost_taken : IsPointTaken M way from.point → IsLost M way shut from
      lost_taken taken = lost_each (λ w later short leads avoid. leads.0.free taken)

      -- where nothing leads back by any of the pairs there
      pub lost_tried : (here : List Pair) (n : ℕ) → here ≡ standing_at M from.point → length here ≤ n → ((k : ℕ) → k < n → IsLostBy M way shut from (pair_at here k)) → IsLost M way shut from
      lost_tried here n is past tried = lost_each (λ w later short leads avoid.
          let a : Among here w = subst (λ (s : List Pair). Among s w) (sym is) (stands-among M from.point w leads.0.pair leads.0.stands) in
          let k = among-index here w (0, 0) a in
          subst (IsLostBy M way shut from) k.2 (tried k.0 (omega (arith, k.1))) later short leads avoid)

  -- ---- the later pairs of a circular wait

  -- The later pairs of a circular wait lead back. Its first pairs begin with a way, and take the point that is shut.
  ring_leads : 0 < length way → (later r : List Pair) (q : ℕ) → 0 < length r → ((k : ℕ) → k < length way → (k < length r) × (pair_at r k ≡ pair_at way k)) →
      IsPointTaken M r shut → IsRing M (r ++ later) → next_point M (pair_at r (length r - 1)) ≡ Some q → LeadsBack M way shut q later
  ring_leads begun [] r q some begins closed ring wanted =
      let u = waits_for_first M r some (subst (IsRing M) (append-nil r) ring) in
      let same : u.0 ≡ q = same_Some u.0 q (sym u.1 ∙ wanted) in
      subst (λ v. point_at M v ≡ Some q) ((begins 0 begun).1) (u.2 ∙ ap Some same)
  ring_leads begun (w ∷ later) r q some begins closed ring wanted =
      let x : List Pair = r ++ w ∷ later in
      let r' : List Pair = r ++ w ∷ [] in
      let ring' : IsRing M (r' ++ later) = subst (IsRing M) (sym (append_assoc r (w ∷ []) later)) ring in
      let n : length r' ≡ length r + 1 = length-append r (w ∷ []) in
      let m : length x ≡ length r + suc (length later) = length-append r (w ∷ later) in
      let next = wants_some M r' later (omega arith) ring' in
      let fit = (Decides-fits r w).0 (next_fits M r w later some ring) in
      let may : MayBeAt M way shut q w = record {
        pair = next_valid M r w later some ring;
        stands = next_stands M r w later some ring q wanted;
        fits = (Decides-fits way w).1 (
          subst (λ (v : Pair). v.0 < w.0) ((begins 0 begun).1) fit.0,
          (λ k l same. let b = begins k l in fit.1 k b.0 (ap (λ (v : Pair). v.0) b.1 ∙ same)),
        );
        free = λ t. let b = begins t.0 t.1 in none_behind M r w later some ring q wanted (t.0, b.0, subst (λ v. point_at M v ≡ Some q) (sym b.1) t.2);
        open_point = λ is. none_behind M r w later some ring q wanted (closed.0, closed.1, closed.2 ∙ ap Some (sym is));
      } in (
        may,
        others M r w later ring,
        (
          next.0,
          subst (λ v. next_point M v ≡ Some next.0) (at_end r w) next.1,
          ring_leads begun later r' next.0 (omega arith)
              (λ k l. let b = begins k l in (omega (arith, b.0), at_old r (w ∷ []) k b.0 ∙ b.1))
              (closed.0, omega (arith, closed.1), subst (λ v. point_at M v ≡ Some shut) (sym (at_old r (w ∷ []) closed.0 closed.1)) closed.2)
              ring' next.1,
        ),
      )

-- the goal is too far from the wanted point
pub too_far : (M : List Mission) (levels : List ℕ) (r : List Pair) (n q : ℕ) → AreLevels M (pair_at r 0) levels → 0 < length r →
    next_point M (pair_at r (length r - 1)) ≡ Some q → n < slice_index levels q → rings_from M r n ≡ []
too_far M levels r n q are some wanted far = none_from M r n (λ later short ring.
    let u = waits_for_first M (r ++ later) (omega (arith, length-append r later)) ring in
    let first : point_at M (pair_at r 0) ≡ Some u.0 = subst (λ v. point_at M v ≡ Some u.0) (at_old r later 0 some) u.2 in
    let leads = ring_leads M r u.0 some later r q some (λ k l. (l, refl)) (0, some, first) ring wanted in
    let low = level_leads M r u.0 levels are later q leads in
    omega arith)

module _ (M : List Mission) (way : List Pair) (left : ℕ) (w : Pair) where
  pub none_follow_unwanted : next_point M w ≡ None → rings_from M (way ++ w ∷ []) left ≡ []
  none_follow_unwanted none =
      none_wanted M (way ++ w ∷ []) (omega (arith, length-append way (w ∷ []))) left (subst (λ v. next_point M v ≡ None) (sym (at_end way w)) none)

  -- What nothing leads back from begins no circular wait.
  pub none_follow : (shut : ℕ) (from : Reach) → 0 < length way → point_at M w ≡ Some shut → next_point M w ≡ Some from.point → left ≤ from.left →
      ((i : ℕ) → HasTrain from.used i → i ≡ w.0) → IsLost M way shut from → rings_from M (way ++ w ∷ []) left ≡ []
  none_follow shut from begun stands next most used lost = none_from M (way ++ w ∷ []) left (λ later short ring.
      let n : length (way ++ w ∷ []) ≡ length way + 1 = length-append way (w ∷ []) in
      lost later (omega arith)
      (ring_leads M way shut begun later (way ++ w ∷ []) from.point (omega arith)
      (λ k l. (omega arith, at_old way (w ∷ []) k l))
      (length way, omega arith, subst (λ v. point_at M v ≡ Some shut) (sym (at_new way w [])) stands)
      ring (subst (λ v. next_point M v ≡ Some from.point) (sym (at_end way w)) next))
      (λ k d l has. others M way w later (regrouped M way w later ring) k d l (used (slice_index_or later k d).0 has)))
