-- A yard that stands goes on standing, and what its answers rest on.
use Rattle.std.proofs.Common.{◌≡◌, ℕ, suc, zero, ◌+◌, ◌*◌, ◌<◌, ◌≤◌, List, length, refl, sym, ap, ◌∙◌, subst, arith}
use Rattle.std.proofs.lemmas.List.{length-set}
use Rattle.rail_model.specs.declared.types.Line.{Line}
use Rattle.rail_model.specs.declared.types.Line.TheVariants.{Move as MoveLine, Table as TableLine, KeptDiffers, KeptOver}
use Rattle.rail_model.specs.declared.types.Tried.{Tried}
use Rattle.rail_model.specs.declared.types.Tried.TheVariants.{Exchanged, Differs, Over, Early, NoMore}
use Rattle.rail_model.specs.Sums.{sum_below}
use Rattle.rail_model.specs.Table.{Table, IsTable, place}
use Rattle.rail_model.specs.State.{Legal}
use Rattle.rail_model.specs.Move.{Move, advance}
use Rattle.rail_model.specs.Exchange.{IsDue, Admits}
use Rattle.rail_model.specs.Journal.{IsLine, after_line}
use Rattle.rail_model.specs.Yard.{Offer, Yard, in_force, next_offer, moved, exchanged, IsOpen, IsNextDue, Tries}
use Rattle.rail_model.proofs.Sums.{sum_step}
use Rattle.rail_model.proofs.Moves.{place_moved, place_other}
use Rattle.rail_model.proofs.Exchanges.{legal_exchange}
use Rattle.table_exchange.specs.Tables.{AreTables, Stands}

pub sum_bound : (f : ℕ → ℕ) (n b : ℕ) → ((i : ℕ) → i < n → f i ≤ b) → sum_below f n ≤ n * b
sum_bound f zero b h = omega arith
sum_bound f (suc n) b h =
    let before : sum_below f n ≤ n * b = sum_bound f n b (λ i lt. h i (omega arith)) in
    let here : f n ≤ b = h n (omega arith) in
    omega arith

-- at most 32 trains, and at most 127 places each
pub few_places : (T : Table) (p : List ℕ) → IsTable T → Legal T p → sum_below (place p) (length p) ≤ 4064
few_places T p table legal =
    let sum : sum_below (place p) (length p) ≤ length p * 127 =
    sum_bound (place p) (length p) 127 (λ i lt. omega (arith, legal.in_range i (omega (arith, legal.one_each)), (table.missions i (omega (arith, legal.one_each))).few_places)) in
    omega (arith, legal.one_each, table.few_trains)

pub stands_moved : (tables : List Offer) (y : Yard) (i : ℕ) → Stands tables y → Move (in_force tables y) y.positions i (advance y.positions i) → Stands tables (moved y i)
stands_moved tables y i s m =
    let p = y.positions in
    let within : i < length p = omega (arith, m.before.one_each, m.train) in
    let size : length (advance p i) ≡ length p = length-set p i (place p i + 1) in
    let sum : sum_below (place (advance p i)) (length p) ≡ sum_below (place p) (length p) + 1 =
    sum_step (place (advance p i)) (place p) (length p) i within (place_moved p i within) (λ j lt ne. place_other p i j ne) in
    record {
      in_range = s.in_range;
      tried = s.tried;
      answered = s.answered;
      legal = m.after;
      moves = subst (λ n. y.moves + 1 ≤ sum_below (place (advance p i)) n) (sym size) (omega (arith, s.moves));
    }

pub stands_exchanged : (tables : List Offer) (y : Yard) → AreTables tables → Stands tables y → IsOpen tables y
    → Admits (in_force tables y) (next_offer tables y).table y.positions Exchanged → Stands tables (exchanged y)
stands_exchanged tables y are s still a = record {
  in_range = still;
  tried = still;
  answered = omega arith;
  legal = legal_exchange (in_force tables y) (next_offer tables y).table y.positions (are.same (y.tried + 1) still ∙ sym (are.same y.table s.in_range)) s.legal a.0 a.1;
  moves = s.moves;
}

-- a right line leads from a yard that stands to one that stands
pub stands_line : (tables : List Offer) (y : Yard) (l : Line) → AreTables tables → Stands tables y → IsLine tables y l → Stands tables (after_line y l)
stands_line tables y (MoveLine i from to) are s line = stands_moved tables y i s line.0
stands_line tables y (TableLine t) are s line = stands_exchanged tables y are s line.1.0.0 line.1.1
stands_line tables y (KeptDiffers t i k) are s line = record { in_range = s.in_range; tried = line.1.0.0; answered = omega (arith, s.answered); legal = s.legal; moves = s.moves }
stands_line tables y (KeptOver t c n) are s line = record { in_range = s.in_range; tried = line.1.0.0; answered = omega (arith, s.answered); legal = s.legal; moves = s.moves }

-- the answer of equal tables at equal positions
pub admits_same : (T U new given : Table) (p q : List ℕ) (r : Tried) → T ≡ U → new ≡ given → p ≡ q → Admits T new p r → Admits U given q r
admits_same T U new given p q r old_is new_is p_is a =
    subst (λ (x : List ℕ). Admits U given x r) p_is
    (subst (λ (n : Table). Admits U n p r) new_is
    (subst (λ (t : Table). Admits t new p r) old_is a))

-- a table that is due and admitted has its answer
pub tries_admitted : (tables : List Offer) (y : Yard) (T : Table) (next : Offer) (r : Tried) → T ≡ in_force tables y → next ≡ next_offer tables y → IsOpen tables y
    → IsDue T y.positions y.moves next.after → Admits T next.table y.positions r → Tries tables y r
tries_admitted tables y T next r here ahead still due a =
    by_answer r (admits_same T (in_force tables y) next.table (next_offer tables y).table y.positions y.positions r here (ap (λ (o : Offer). o.table) ahead) refl a)
  where
    is_due : IsNextDue tables y
    is_due = (still, subst (λ (o : Offer). IsDue (in_force tables y) y.positions y.moves o.after) ahead (subst (λ (U : Table). IsDue U y.positions y.moves next.after) here due))

    by_answer : (r : Tried) → Admits (in_force tables y) (next_offer tables y).table y.positions r → Tries tables y r
    by_answer Exchanged a = (is_due, a)
    by_answer (Differs i k) a = (is_due, a)
    by_answer (Over s n) a = (is_due, a)
    by_answer (Early m) a = absurd a
    by_answer NoMore a = absurd a
