-- All trains of a stuck state are a core of it.
use Rattle.std.proofs.Common.{◌≡◌, ◌==◌, ℕ, ◌+◌, ◌<◌, true, false, true≢false, pos, ◌+ℤ◌, ◌≤ℤ◌, ◌<ℤ◌, List, length, Some, refl, arith, ap, ◌∙◌, inl, inr, sym}
use Rattle.std.specs.Prelude.{IsTrue, if◌then◌else◌, slice_get, nat_lt, ◌≤◌}
use Rattle.std.specs.List.{list_any}
use Rattle.std.proofs.lemmas.Bool.{cases_Bool, eq-eqb}
use Rattle.std.proofs.lemmas.Bool.Decides.{Decides-ltb, leb_tells}
use Rattle.std.proofs.lemmas.Int.{ints}
use Rattle.rail_model.specs.Table.{Table, IsTable, Connection, trains, last, limit, change, share, place, count}
use Rattle.rail_model.specs.Move.{Stuck, Blocks, IsOver, advance}
use Rattle.rail_model.specs.Checks.{below, blocks, is_over, is_held_by}
use Rattle.rail_model.proofs.Agree.{Decides-any_below, Decides-any_get}
use Rattle.rail_model.proofs.Asked.{Decides-blocks, Decides-over, Decides-held}
use Rattle.rail_model.proofs.Obstacles.{legal_advance}
use Rattle.rail_model.proofs.Shares.{count_advance}
use Rattle.rail_model.proofs.Sums.{total_same}
use Rattle.state_core.specs.Core.{has, count_within, IsKept, is_unfinished, StuckStatesHaveCores}
use Rattle.state_core.proofs.Tests.{itself, some_below}

-- a place that isn't below the last one
ended : (a b : ℕ) → a ≤ b → nat_lt a b ≡ false → a ≡ b
ended a b le h =
    elim (leb_tells b a) [
      | inl e ↦ omega (arith, e.1)
      | inr e ↦ absurd
          (true≢false (sym ((Decides-ltb a b).1 e.1) ∙ h))
    ]

-- each train is one of all
all-has : (n j : ℕ) → j < n → has (below n) j ≡ true
all-has n j lt = some_below (λ k. k == j) n j lt (eq-eqb j j refl)

-- all trains' shares are the count
all_count : (T : Table) (s : ℕ) (p : List ℕ) → count_within T (below (trains T)) s p ≡ count T s p
all_count T s p =
    total_same _ _ (trains T) (λ j lt. ap (λ b. if b then share T j s (place p j) else pos 0) (all-has (trains T) j lt))

module _ (T : Table) (p : List ℕ) (table : IsTable T) (stuck : Stuck T p) where
  module _ (i : ℕ) (lt : i < trains T) (low : place p i < last T i) where
    -- whoever blocks a train is one of all
    blocked : (by : ℕ) → Blocks T p i by → IsKept T p (below (trains T)) i
    blocked by b = inl (by, all-has (trains T) by b.0, b)

    -- a section that would be over rises
    shut : (s : ℕ) → IsOver T (advance p i) s → IsKept T p (below (trains T)) i
    shut s over =
        let counted : count T s (advance p i) ≡ count T s p +ℤ change T i s (place p i + 1) =
        count_advance T s i p stuck.legal.one_each lt in
        let fits : count T s p ≤ℤ pos (limit T s) = stuck.legal.within s over.0 in
        let above : pos (limit T s) <ℤ count T s (advance p i) = over.1 in
        let same : count_within T (below (trains T)) s p ≡ count T s p = all_count T s p in
        inr (inl (s, over.0, omega (arith, ints, counted, fits, above), omega (arith, ints, counted, above, same)))

    -- a connection that holds it waits for one of all
    held : (c : ℕ) (k : Connection) → slice_get T.connections c ≡ Some k → is_held_by p i k ≡ true →
        IsKept T p (below (trains T)) i
    held c k at h =
        let w = (Decides-held p i k).0 h in
        inr (inr (c, k, at, w.0.0, w.0.1, w.1, all-has (trains T) k.other (table.connections c k at).other))

    -- where nothing is in its way, it has a move
    free : list_any (blocks T p i) (below (trains T)) ≡ false →
        list_any (is_over T (advance p i)) (below (length T.sections)) ≡ false
        → list_any (is_held_by p i) T.connections ≡ false → ⊥
    free clear fits open_way = stuck.no_move i (advance p i) (record {
      before = stuck.legal;
      train = lt;
      step = refl;
      after = legal_advance T p i stuck.legal lt low
          (λ by b. true≢false (sym (some_below (blocks T p i) (trains T) by b.0
          ((Decides-blocks T p i by).1 (b.1, b.2))) ∙ clear))
          (λ s over. true≢false (sym (some_below (is_over T (advance p i)) (length T.sections) s over.0
          ((Decides-over T (advance p i) s).1 over.1)) ∙ fits));
      free =
          λ c h. true≢false (sym ((Decides-any_get _ _ (Decides-held p i) T.connections).1
          (c, h.0, h.1, ((h.2, h.3), h.4))) ∙ open_way);
    })

    kept : IsKept T p (below (trains T)) i
    kept = elim (cases_Bool (list_any (blocks T p i) (below (trains T)))) [
      | inl h ↦ (let w = (Decides-any_below (blocks T p i) _ (Decides-blocks T p i) (trains T)).0 h in
          blocked w.0 (w.1, w.2.0, w.2.1))
      | inr clear ↦ elim (cases_Bool (list_any (is_over T (advance p i)) (below (length T.sections)))) [
        | inl h ↦ (let w =
            (Decides-any_below (is_over T (advance p i)) _ (Decides-over T (advance p i)) (length T.sections)).0 h in
            shut w.0 (w.1, w.2))
        | inr fits ↦ elim (cases_Bool (list_any (is_held_by p i) T.connections)) [
          | inl h ↦ (let w = (Decides-any_get (is_held_by p i) (λ k. is_held_by p i k ≡ true)
              (λ k. itself (is_held_by p i k)) T.connections).0 h in held w.0 w.1 w.2 w.3)
          | inr open_way ↦ absurd (free clear fits open_way)
        ]
      ]
    ]

  -- some train hasn't arrived
  unfinished : (i : ℕ) × (i < trains T) × IsTrue (has (below (trains T)) i) × (place p i < last T i)
  unfinished = elim (cases_Bool (list_any (is_unfinished T p) (below (trains T)))) [
    | inl h ↦ (let w =
        (Decides-any_below (is_unfinished T p) (λ i. place p i < last T i) (λ i. Decides-ltb _ _) (trains T)).0 h in
        (w.0, w.1, all-has (trains T) w.0 w.1, w.2))
    | inr none ↦ absurd (stuck.unfinished (λ i lt. elim (cases_Bool (is_unfinished T p i)) [
      | inl h ↦ absurd (true≢false (sym (some_below (is_unfinished T p) (trains T) i lt h) ∙ none))
      | inr h ↦ ended (place p i) (last T i) (stuck.legal.in_range i lt) h
    ]))
  ]

pub stuck_states_have_cores : StuckStatesHaveCores
stuck_states_have_cores T p table stuck = record {
  unfinished = unfinished T p table stuck;
  kept = λ i lt member low. kept T p table stuck i lt low;
}
