-- Nothing lost: one round.
use Rattle.std.proofs.Common.{◌≡◌, ◌≢◌, ℕ, zero, suc, ◌+◌, ◌<◌, ◌≤◌, Bool, true, false, true≢false, List, [], ◌∷◌, map, length, Some, None, refl, arith, ap, ◌∙◌, inl, inr, subst, sym, cond}
use Rattle.std.specs.Prelude.{find, filter, slice_get, slice_index_or, pos, ◌<ℤ◌, nat_abs}
use Rattle.std.specs.List.{range_with_len}
use Rattle.std.proofs.lemmas.List.{length-map}
use Rattle.std.proofs.lemmas.Bool.{cases_Bool, ne_eqb}
use Rattle.std.proofs.lemmas.Bool.Decides.{eqb_tells}
use Rattle.std.proofs.lemmas.Option.{slice_get-get_or}
use Rattle.rail_model.specs.Table.{Table, Mission, last, point, share, place, count}
use Rattle.rail_model.specs.State.{Legal, Arrived}
use Rattle.rail_model.specs.Move.{Move, Run, Stuck, IsOver, advance}
use Rattle.rail_model.specs.Certificate.{IsIn}
use Rattle.rail_model.specs.Checks.{below, blocks, is_over}
use Rattle.rail_model.proofs.Agree.{Decides-int_lt}
use Rattle.rail_model.proofs.Found.{Among, find-passes, Among-map}
use Rattle.rail_model.proofs.Moves.{place_moved, place_other}
use Rattle.forbidden_states.specs.Forbid.{Stay, AreStays, InStays, AreInRange, unmarked, stay_of, forbidding, marked}
use Rattle.forbidden_states.proofs.Members.{map-among, filter-among, among-at, among-length, range-among, below-among, find-among, none-found}
use Rattle.forbidden_states.proofs.Over.{over_in}
use Rattle.section_repair.specs.Core.{has, core}
use Rattle.section_repair.specs.Joining.{stays_of}
use Rattle.section_repair.specs.Claims.{Completable, IsApart}
use Rattle.section_repair.proofs.Closed.{IsClosing, core_is_closing}
use Rattle.section_repair.proofs.Stays.{stay-below, InStays-at, InStays-moved, share-inside}
use Rattle.section_repair.proofs.ListTests.{has-among, among-has}
use Rattle.section_repair.proofs.Told.{ask-occupied, ask-full, waits-occupied, waits-full, blocks-at, free_move}

-- No state with distinct points and all these trains in their ranges can be completed.
abbrev pub Doomed : List Mission → List Stay → Type 0
Doomed M b = (p : List ℕ) → IsApart M p → InStays p b → Completable M p → ⊥

pub record IsSound (M : List Mission) (b : List Stay) : Type 0 where
  pub stays : AreStays (length M) b
  pub some : 0 < length b
  pub doomed : Doomed M b

abbrev pub AreSound : List Mission → List (List Stay) → Type 0
AreSound M S = (b : List Stay) → Among S b → IsSound M b

-- ---- the first member of a core to move

-- The other state has the positions of the first one for all members of the set.
abbrev Agree : List ℕ → List ℕ → List ℕ → Type 0
Agree p r c = (i : ℕ) → Among c i → place r i ≡ place p i

record Scene (M : List Mission) (S : List (List Stay)) (p c : List ℕ) : Type 0 where
  stuck : Stuck (marked M S) p
  closing : IsClosing (marked M S) p c
  sound : AreSound M S

-- no member can move first
first_mover : (M : List Mission) (S : List (List Stay)) (p c : List ℕ) → Scene M S p c → (r m : List ℕ) (i : ℕ) → IsApart M r → Agree p r c →
    Among c i → Move (unmarked M) r i m → Completable M m → ⊥
first_mover M S p c w r m i apart agree a move rest =
    let T : Table = marked M S in
    let legal : Legal T p = w.stuck.legal in
    let l : i < length M = move.train in
    let n : length r ≡ length M = apart.one_each in
    let np : length p ≡ length M = legal.one_each in
    let at : place r i ≡ place p i = agree i a in
    let step : m ≡ advance r i = move.step in
    let own : place m i ≡ place p i + 1 = ap (λ v. place v i) step ∙ place_moved r i (omega arith) ∙ ap (λ k. k + 1) at in
    let other : (j : ℕ) → j ≢ i → place m j ≡ place r j = λ j d. ap (λ v. place v j) step ∙ place_other r i j d in
    let low : place p i < last (unmarked M) i = omega (arith, move.after.in_range i l) in
    let d : place p i ≢ last T i = λ e. omega (arith, e, low) in
    (elim (find (blocks T p i) (below (length M))) as (λ o. find (blocks T p i) (below (length M)) ≡ o → ⊥) [
      | Some by ↦ λ e.
          let k : by < length M = below-among (length M) by (find-among (blocks T p i) (below (length M)) by e) in
          let u = blocks-at T p i by (find-passes (blocks T p i) (below (length M)) by e) in
          let member : Among c by = w.closing.closed i by a k (waits-occupied T p i by (ask-occupied T p i by d e)) in
          move.after.apart i by u.1.0 l k (λ s. u.0 (sym s))
          (subst (λ v. point T i v ≡ Some u.1.0) (sym own) u.1.1)
          (subst (λ v. point T by v ≡ Some u.1.0) (sym (other by u.0 ∙ agree by member)) u.1.2)
      | None ↦ λ e. (elim (find (is_over T (advance p i)) (below (length (map (forbidding M) S)))) as (λ o. find (is_over T (advance p i)) (below (length (map (forbidding M) S))) ≡ o → ⊥) [
        | None ↦ λ f. w.stuck.no_move i (advance p i) (free_move M S p i legal l low e f)
        | Some s ↦ λ f.
            let ks : s < length (map (forbidding M) S) = below-among (length (map (forbidding M) S)) s (find-among (is_over T (advance p i)) (below (length (map (forbidding M) S))) s f) in
            let within : s < length S = omega (arith, length-map S (forbidding M)) in
            let b : List Stay = slice_index_or S s [] in
            let got : slice_get S s ≡ Some b = slice_get-get_or S s [] within in
            let ab : Among S b = among-at S s [] within in
            let sb : IsSound M b = w.sound b ab in
            let over : IsOver T (advance p i) s = (ks, (Decides-int_lt _ _).0 (find-passes (is_over T (advance p i)) (below (length (map (forbidding M) S))) s f)) in
            let pown : place (advance p i) i ≡ place p i + 1 = place_moved p i (omega arith) in
            let range : AreInRange M (advance p i) = λ j k. elim (eqb_tells j i) [
              | inl t ↦ subst (λ v. place (advance p i) v ≤ last (unmarked M) v) (sym t.1) (omega arith)
              | inr t ↦ omega (arith, place_other p i j t.1, legal.in_range j k)
            ] in
            let inside : InStays (advance p i) b = over_in M S s b (advance p i) got sb.stays range over in
            let same : (t : Stay) → Among b t → place m t.train ≡ place (advance p i) t.train = λ t at'. elim (eqb_tells t.train i) [
              | inl q ↦ subst (λ v. place m v ≡ place (advance p i) v) (sym q.1) (own ∙ sym pown)
              | inr q ↦
                  let kt : t.train < length M = stay-below (length M) b t sb.stays at' in
                  let back : place (advance p i) t.train ≡ place p t.train = place_other p i t.train q.1 in
                  let in_p : IsIn (place p t.train) t.range = subst (λ k. IsIn k t.range) back (InStays-at (advance p i) b t inside at') in
                  let above : pos 0 <ℤ share T t.train s (place p t.train) = share-inside M S s b t p got sb.stays at' (legal.in_range t.train kt) in_p in
                  let member : Among c t.train = w.closing.closed i t.train a kt (waits-full T p i s (nat_abs (count T s p)) t.train (ask-full T p i s d e f) q.1 above) in
                  other t.train q.1 ∙ agree t.train member ∙ sym back
            ] in
            sb.doomed m move.after (InStays-moved (advance p i) m b (λ t at' _. same t at') inside) rest
      ]) refl
    ]) refl

-- no run from there ends arrived
no_run : (M : List Mission) (S : List (List Stay)) (p c : List ℕ) → Scene M S p c → (l r q : List ℕ) → IsApart M r → Agree p r c →
    Run (unmarked M) r l q → Arrived (unmarked M) q → ⊥
no_run M S p c w [] r q apart agree run arrived =
    let k : w.closing.first < length M = w.closing.first_below in
    w.closing.first_unfinished (sym (agree w.closing.first w.closing.holds) ∙ ap (λ v. place v w.closing.first) (sym run) ∙ arrived w.closing.first k)
no_run M S p c w (i ∷ later) r q apart agree run arrived =
    let m : List ℕ = run.0 in
    let move : Move (unmarked M) r i m = run.1 in
    elim (cases_Bool (has c i)) [
      | inl e ↦ first_mover M S p c w r m i apart agree (has-among c i e) move (later, q, run.2, arrived)
      | inr e ↦ no_run M S p c w later m q move.after
          (λ j a. ap (λ v. place v j) move.step ∙ place_other r i j (λ t. true≢false (sym (among-has c j a) ∙ ap (has c) t ∙ e)) ∙ agree j a)
          run.2 arrived
    ]

-- ---- the section of a core

stays-filter : (n : ℕ) (p : List ℕ) (q : ℕ → Bool) (k a : ℕ) → a + k ≤ n → AreStays n (stays_of p (filter q (range_with_len a k)))
stays-filter n p q zero a h = tt
stays-filter n p q (suc k) a h =
    let rest : AreStays n (stays_of p (filter q (range_with_len (a + 1) k))) = stays-filter n p q k (a + 1) (omega arith) in
    let fresh : stay_of (stays_of p (filter q (range_with_len (a + 1) k))) a ≡ None = none-found _ _ (λ s m.
    let u = map-among (λ i. record { train = i; range = record { lo = place p i; hi = place p i } }) (filter q (range_with_len (a + 1) k)) s m in
    let v = filter-among q (range_with_len (a + 1) k) u.0 u.1 in
    let g : a + 1 ≤ u.0 = (range-among k (a + 1) u.0 v.0).0 in
    let t : u.0 ≡ s.train = ap (λ (x : Stay). x.train) u.2 in
    ne_eqb s.train a (λ e. omega (arith, e, t, g))) in
    (elim (q a) as (λ b. AreStays n (stays_of p (cond b (a ∷ filter q (range_with_len (a + 1) k)) (filter q (range_with_len (a + 1) k))))) [
      | true ↦ (omega arith, omega arith, fresh, rest)
      | false ↦ rest
    ])

pub core_sound : (M : List Mission) (S : List (List Stay)) (p : List ℕ) → AreSound M S → Stuck (marked M S) p → IsSound M (stays_of p (core (marked M S) p))
core_sound M S p sound stuck =
    let T : Table = marked M S in
    let c : List ℕ = core T p in
    let closing : IsClosing T p c = core_is_closing T p stuck.unfinished in
    let w : Scene M S p c = record { stuck = stuck; closing = closing; sound = sound } in
    record {
      stays = subst (λ v. AreStays (length M) (stays_of p v)) (sym closing.set.1) (stays-filter (length M) p closing.set.0 (length M) 0 (omega arith));
      some = among-length (stays_of p c) _ (Among-map (λ i. record { train = i; range = record { lo = place p i; hi = place p i } }) c closing.first closing.holds);
      doomed = λ r apart h run. no_run M S p c w run.0 r run.1 apart
          (λ i a. let u = InStays-at r (stays_of p c) (record { train = i; range = record { lo = place p i; hi = place p i } }) h (Among-map (λ j. record { train = j; range = record { lo = place p j; hi = place p j } }) c i a) in omega (arith, u.0, u.1))
          run.2 run.3;
    }
