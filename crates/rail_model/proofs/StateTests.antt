-- Each test of a state is true exactly where its definition holds.
use Rattle.std.proofs.Common.{◌≡◌, ℕ, ◌<◌, true, List, length, Some, subst}
use Rattle.std.specs.Prelude.{◌↔◌, slice_get}
use Rattle.std.proofs.lemmas.Bool.Decides.{Decides-eqb, Decides-or}
use Rattle.rail_model.specs.Table.{Table, Connection, trains, last, place}
use Rattle.rail_model.specs.State.{Arrived}
use Rattle.rail_model.specs.Move.{Blocks, IsHeldBy, IsOver}
use Rattle.rail_model.specs.Exchange.{IsDue}
use Rattle.rail_model.specs.Checks.{blocks, is_over, is_held_by, is_arrived, is_due}
use Rattle.rail_model.proofs.Agree.{Decides-all_below, Decides-leb}
use Rattle.rail_model.proofs.Asked.{Decides-blocks, Decides-held, Decides-over}

pub block : (T : Table) (p : List ℕ) (i j : ℕ) → j < trains T → (blocks T p i j ≡ true) ↔ Blocks T p i j
block T p i j j_in = (λ e. let h = (Decides-blocks T p i j).0 e in (j_in, h.0, h.1), λ h. (Decides-blocks T p i j).1 (h.1, h.2))

pub over : (T : Table) (p : List ℕ) (s : ℕ) → s < length T.sections → (is_over T p s ≡ true) ↔ IsOver T p s
over T p s s_in = (λ e. (s_in, (Decides-over T p s).0 e), λ h. (Decides-over T p s).1 h.1)

pub held : (T : Table) (p : List ℕ) (i c : ℕ) (k : Connection)
    → slice_get T.connections c ≡ Some k → (is_held_by p i k ≡ true) ↔ IsHeldBy T p i c
held T p i c k there = (
  λ e. let h = (Decides-held p i k).0 e in (k, there, h.0.0, h.0.1, h.1),
  λ h. let same : h.0 ≡ k = (let e = h.1 in cc) in (Decides-held p i k).1 (subst Holds same ((h.2, h.3), h.4)),
)
  where
    Holds : Connection → Type 0
    Holds k = ((k.train ≡ i) × (k.place ≡ place p i)) × (place p k.other < k.reached)

pub Decides-arrived : (T : Table) (p : List ℕ) → (is_arrived T p ≡ true) ↔ Arrived T p
Decides-arrived T p = Decides-all_below _ (λ i. place p i ≡ last T i) (λ i. Decides-eqb (place p i) (last T i)) (trains T)

pub due : (T : Table) (p : List ℕ) (moves after : ℕ) → (is_due T p moves after ≡ true) ↔ IsDue T p moves after
due T p moves after = Decides-or _ _ (Decides-leb after moves) (Decides-arrived T p)
