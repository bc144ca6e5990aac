-- A history that is replayed entry by entry.
use Rattle.zone_machine.proofs.Prelude.{◌≡◌, ℕ, zero, suc, ◌+◌, ◌-◌, ◌<◌, List, [], ◌∷◌, ◌++◌, length, get_or, drop, Bool, true, false, cond, None, sym, ◌∙◌, append_assoc, subst, arith, slice_get, Entry, last, point, Offer, Yard, IsHistory, after, after_entry}
use Rattle.std.proofs.Common.{drop-cons}
use Rattle.std.specs.Prelude.{option_to_list}
use Rattle.rail_model.specs.declared.types.Line.{Line}
use Rattle.rail_model.specs.Lines.{journal_of, line_of}
use Rattle.rail_model.specs.Table.{Table, Mission, mission, last_of}
use Rattle.table_exchange.specs.Tables.{AreTables, Stands}
use Rattle.table_exchange.proofs.Histories.{stands_history}

-- The entries that are left are right from here on, and lead to this state and these lines.
pub record Replayed (tables : List Offer) (left : List Entry) (yard : Yard) (lines : List Line) (end : Yard) (whole : List Line) : Type 0 where
  pub stands : Stands tables yard
  pub right : IsHistory tables yard left
  pub leads : after yard left ≡ end
  pub told : lines ++ journal_of tables yard left ≡ whole

module _ (tables : List Offer) (are : AreTables tables) (end : Yard) (whole : List Line) where
  -- one entry more
  one_replayed : (e : Entry) (left : List Entry) (y z : Yard) (lines more : List Line) → Replayed tables (e ∷ left) y lines end whole
      → z ≡ after_entry y e → more ≡ lines ++ option_to_list (line_of tables y e) → Replayed tables left z more end whole
  one_replayed e left y z lines more r z_is more_is =
      subst (λ (x : Yard). Replayed tables left x more end whole) (sym z_is)
      (subst (λ (l : List Line). Replayed tables left (after_entry y e) l end whole) (sym more_is) (record {
        stands = stands_history tables y (e ∷ []) are r.stands (r.right.0, tt);
        right = r.right.1;
        leads = r.leads;
        told = append_assoc lines _ _ ∙ r.told;
      }))

  -- the entry of this place is replayed
  pub next_replayed : (items : List Entry) (i : ℕ) (e : Entry) → i < length items → (y z : Yard) (lines more : List Line)
      → Replayed tables (drop i items) y lines end whole → z ≡ after_entry y (get_or items i e) → more ≡ lines ++ option_to_list (line_of tables y (get_or items i e))
      → Replayed tables (drop (i + 1) items) z more end whole
  next_replayed items i e lt y z lines more r z_is more_is =
      let one : suc i ≡ i + 1 = omega arith in
      subst (λ k. Replayed tables (drop k items) z more end whole) one
      (one_replayed (get_or items i e) (drop (suc i) items) y z lines more (subst (λ l. Replayed tables l y lines end whole) (drop-cons items i e lt) r) z_is more_is)

-- a train that isn't at its last place stands at a point
pub has_point : (T : Table) (i k : ℕ) → k < last T i → point T i k ≡ None → ⊥
has_point T i k lt none = absent (mission T i).points k (before_last (mission T i) lt) none
  where
    before_last : (m : Mission) → k < last_of m → k < length m.points
    before_last m lt = go m.exits lt
      where
        go : (b : Bool) → k < cond b (length m.points) (length m.points - 1) → k < length m.points
        go true h = h
        go false h = omega arith

    absent : (xs : List ℕ) (k : ℕ) → k < length xs → slice_get xs k ≡ None → ⊥
    absent [] k lt none = omega arith
    absent (x ∷ xs) zero lt none = cc none
    absent (x ∷ xs) (suc k) lt none = absent xs k (omega arith) none
