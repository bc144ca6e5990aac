-- What a train is told, as a test computes it: the same as the definition says.
use Rattle.std.proofs.Common.{◌≡◌, ◌≢◌, ℕ, ◌+◌, ◌<◌, Bool, true, false, ◌==◌, ℤ, pos, ◌≤ℤ◌, ◌<ℤ◌, List, length, Option, Some, None, refl, sym, ◌∙◌, ap, subst, arith}
use Rattle.std.specs.Prelude.{find, slice_get, nat_abs, Decides}
use Rattle.std.specs.List.{position_from}
use Rattle.std.proofs.lemmas.Bool.Decides.{Decides-eqb, Decides-not, Decides-and, Decides-ltb}
use Rattle.rail_model.specs.declared.types.Ask.TheVariants.{Yes, Arrived as AtEnd, Occupied, Full, Waits}
use Rattle.rail_model.specs.Table.{Table, Connection, trains, last, point, limit, place, count}
use Rattle.rail_model.specs.State.{Legal, StandsAt}
use Rattle.rail_model.specs.Move.{Answers, Blocks, IsFirst, IsHeldBy, IsOver, advance}
use Rattle.rail_model.specs.Checks.{below, blocks, is_over, is_held_by, ask, AskAgrees}
use Rattle.rail_model.proofs.Agree.{Decides-int_lt, Decides-same_point}
use Rattle.rail_model.proofs.Asks.{told_once}
use Rattle.rail_model.proofs.FirstPassing.{first_found, none_found, first_place, no_place}
use Rattle.rail_model.proofs.Obstacles.{legal_advance}
use Rattle.rail_model.proofs.Shares.{natural}

pub Decides-blocks : (T : Table) (p : List ℕ) (i j : ℕ) → Decides (blocks T p i j) ((j ≢ i) × ((q : ℕ) × (point T i (place p i + 1) ≡ Some q) × StandsAt T p j q))
Decides-blocks T p i j = Decides-and _ _ (Decides-not _ (Decides-eqb j i)) (Decides-same_point (point T i (place p i + 1)) (point T j (place p j)))

pub Decides-over : (T : Table) (p : List ℕ) (s : ℕ) → Decides (is_over T p s) (pos (limit T s) <ℤ count T s p)
Decides-over T p s = Decides-int_lt (pos (limit T s)) (count T s p)

pub Decides-held : (p : List ℕ) (i : ℕ) (k : Connection) → Decides (is_held_by p i k) (((k.train ≡ i) × (k.place ≡ place p i)) × (place p k.other < k.reached))
Decides-held p i k = Decides-and _ _ (Decides-and _ _ (Decides-eqb k.train i) (Decides-eqb k.place (place p i))) (Decides-ltb (place p k.other) k.reached)

-- a count that isn't below 0, as a number
pub counted : (z : ℤ) → pos 0 ≤ℤ z → z ≡ pos (nat_abs z)
counted z low = let n = natural z low in n.1 ∙ ap (λ (m : ℕ). pos m) (sym (ap nat_abs n.1))

-- a train that nothing but a connection may hold
held : (T : Table) (p : List ℕ) (i : ℕ) → Legal T p → i < trains T → place p i < last T i
    → ((by : ℕ) → Blocks T p i by → ⊥) → ((s : ℕ) → IsOver T (advance p i) s → ⊥)
    → (o : Option ℕ) → position_from (is_held_by p i) 0 T.connections ≡ o → Answers T p i (elim o [ Some c ↦ Waits c | None ↦ Yes ])
held T p i legal i_in unfinished clear fits None none = record {
  before = legal;
  train = i_in;
  step = refl;
  after = legal_advance T p i legal i_in unfinished clear fits;
  free = λ c h. let fails = no_place (is_held_by p i) 0 T.connections none c h.0 h.1 in let holds = (Decides-held p i h.0).1 ((h.2, h.3), h.4) in cc;
}
held T p i legal i_in unfinished clear fits (Some c) found =
    let first = first_place (is_held_by p i) 0 c T.connections found in
    let there : c ≡ first.0 = (let e : c ≡ 0 + first.0 = first.1 in omega arith) in (
      unfinished,
      clear,
      fits,
      subst (IsFirst (IsHeldBy T p i)) (sym there) (
        here first.0 first.2.0,
        λ j before h.
            let fails = first.2.1 j h.0 before h.1 in let holds = (Decides-held p i h.0).1 ((h.2, h.3), h.4) in cc,
      ),
    )
  where
    here : (m : ℕ) → ((k : Connection) × (slice_get T.connections m ≡ Some k) × (is_held_by p i k ≡ true)) → IsHeldBy T p i m
    here m w = let h = (Decides-held p i w.0).0 w.2 in (w.0, w.1, h.0.0, h.0.1, h.1)

-- a train whose way is clear
fits : (T : Table) (p : List ℕ) (i : ℕ) → Legal T p → i < trains T → ((s : ℕ) → pos 0 ≤ℤ count T s p) → place p i < last T i
    → ((by : ℕ) → Blocks T p i by → ⊥)
    → (o : Option ℕ) → find (is_over T (advance p i)) (below (length T.sections)) ≡ o
    → Answers T p i (elim o [
      | Some s ↦ Full s (nat_abs (count T s p))
      | None ↦ elim (position_from (is_held_by p i) 0 T.connections) [ Some c ↦ Waits c | None ↦ Yes ]
    ])
fits T p i legal i_in low unfinished clear None none =
    held T p i legal i_in unfinished clear
    (none_found (is_over T (advance p i)) _ (Decides-over T (advance p i)) (length T.sections) none)
    (position_from (is_held_by p i) 0 T.connections) refl
fits T p i legal i_in low unfinished clear (Some s) found =
    (unfinished, clear, first_found (is_over T (advance p i)) _ (Decides-over T (advance p i)) (length T.sections) s found, counted (count T s p) (low s))

-- a train that isn't at its end
clear : (T : Table) (p : List ℕ) (i : ℕ) → Legal T p → i < trains T → ((s : ℕ) → pos 0 ≤ℤ count T s p) → place p i < last T i
    → (o : Option ℕ) → find (blocks T p i) (below (trains T)) ≡ o
    → Answers T p i (elim o [
      | Some by ↦ Occupied by
      | None ↦ elim (find (is_over T (advance p i)) (below (length T.sections))) [
        | Some s ↦ Full s (nat_abs (count T s p))
        | None ↦ elim (position_from (is_held_by p i) 0 T.connections) [ Some c ↦ Waits c | None ↦ Yes ]
      ]
    ])
clear T p i legal i_in low unfinished None none =
    let no_one = none_found (blocks T p i) _ (Decides-blocks T p i) (trains T) none in
    fits T p i legal i_in low unfinished (λ by b. no_one by (b.0, (b.1, b.2))) (find (is_over T (advance p i)) (below (length T.sections))) refl
clear T p i legal i_in low unfinished (Some by) found =
    let first = first_found (blocks T p i) _ (Decides-blocks T p i) (trains T) by found in
    (unfinished, (first.0.0, first.0.1.0, first.0.1.1))

at_end : (T : Table) (p : List ℕ) (i : ℕ) → Legal T p → i < trains T → ((s : ℕ) → pos 0 ≤ℤ count T s p)
    → (b : Bool) → (place p i == last T i) ≡ b
    → Answers T p i (elim b [
      | true ↦ AtEnd
      | false ↦ elim (find (blocks T p i) (below (trains T))) [
        | Some by ↦ Occupied by
        | None ↦ elim (find (is_over T (advance p i)) (below (length T.sections))) [
          | Some s ↦ Full s (nat_abs (count T s p))
          | None ↦ elim (position_from (is_held_by p i) 0 T.connections) [ Some c ↦ Waits c | None ↦ Yes ]
        ]
      ]
    ])
at_end T p i legal i_in low true same = (Decides-eqb (place p i) (last T i)).0 same
at_end T p i legal i_in low false other =
    let differ : place p i ≢ last T i = λ e. (let same = (Decides-eqb (place p i) (last T i)).1 e in cc) in
    clear T p i legal i_in low (omega (arith, legal.in_range i i_in, differ)) (find (blocks T p i) (below (trains T))) refl

-- in a legal state a train is told what the test computes
pub asked : (T : Table) (p : List ℕ) (i : ℕ) → Legal T p → i < trains T → ((s : ℕ) → pos 0 ≤ℤ count T s p) → Answers T p i (ask T p i)
asked T p i legal i_in low = at_end T p i legal i_in low (place p i == last T i) refl

-- so the test says what the definition says
pub ask-agrees : AskAgrees
ask-agrees T p i a legal i_in low = (
  λ told. told_once T p i a (ask T p i) legal told (asked T p i legal i_in low),
  λ is. subst (Answers T p i) (sym is) (asked T p i legal i_in low),
)
