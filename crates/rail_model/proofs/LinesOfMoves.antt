-- The line of a train's move.
use Rattle.std.proofs.Common.{◌≡◌, ℕ, ◌<◌, Bool, true, false, length, Some, refl, sym, ◌∙◌, ap, arith}
use Rattle.std.specs.Prelude.{List, unwrap_or}
use Rattle.std.proofs.lemmas.Option.{slice_get-get_or, unwrap_or-slice_get}
use Rattle.rail_model.specs.Journal.{IsLine}
use Rattle.rail_model.specs.Lines.{move_line}
use Rattle.rail_model.specs.Move.{Move, advance}
use Rattle.rail_model.specs.Table.{Table, Mission, last, last_of, mission, point, place}
use Rattle.rail_model.specs.Yard.{Offer, Yard, in_force}
use Rattle.rail_model.proofs.Obstacles.{move_unfinished}

-- a place before the last one has a point
before_last : (m : Mission) (k : ℕ) (exits : Bool) → m.exits ≡ exits → k < last_of m → k < length m.points
before_last m k true e lt = let here = rw e at lt in omega (arith, here)
before_last m k false e lt = let here = rw e at lt in omega (arith, here)

has_point : (T : Table) (i k : ℕ) → k < last T i → point T i k ≡ Some (unwrap_or (point T i k) 0)
has_point T i k lt =
    let points = (mission T i).points in
    slice_get-get_or points k 0 (before_last (mission T i) k (mission T i).exits refl lt) ∙ ap (λ (x : ℕ). Some x) (sym (unwrap_or-slice_get points k 0))

-- a move has its line
pub move_line_right : (tables : List Offer) (y : Yard) (i : ℕ) → Move (in_force tables y) y.positions i (advance y.positions i) → IsLine tables y (move_line tables y i)
move_line_right tables y i m =
    let T = in_force tables y in
    (m, has_point T i (place y.positions i) (move_unfinished T y.positions i m), refl)
