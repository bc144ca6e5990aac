-- The round robin from one state of the yard to another.
use Rattle.std.specs.Prelude.{◌≡◌, ℕ, List, ◌++◌, ◌∷◌, [], Bool, true, false}
use Rattle.rail_model.specs.declared.types.Line.{Line}
use Rattle.rail_model.specs.Journal.{IsLine, IsRound, after_lines}
use Rattle.rail_model.specs.Lines.{move_line}
use Rattle.rail_model.specs.Move.{Move, advance}
use Rattle.rail_model.specs.Yard.{Offer, Yard, in_force, moved}

-- Lines were added that lead to z, so that each round robin from z after train c goes on from y after train b.
pub record Reaches (tables : List Offer) (y : Yard) (b : ℕ) (lines : List Line) (z : Yard) (c : ℕ) (longer : List Line) : Type 0 where
  pub added : List Line
  pub adds : longer ≡ lines ++ added
  pub after : z ≡ after_lines y added
  pub round : (later : List Line) → IsRound tables z c later → IsRound tables y b (added ++ later)

-- Lines were added that are the whole round robin from y after train b, and lead to z.
pub record Finishes (tables : List Offer) (y : Yard) (b : ℕ) (lines : List Line) (z : Yard) (longer : List Line) : Type 0 where
  pub added : List Line
  pub adds : longer ≡ lines ++ added
  pub after : z ≡ after_lines y added
  pub round : IsRound tables y b added

-- Train i was asked: it moved and its line was added, or it has no move and nothing was changed.
abbrev pub Went : List Offer → Yard → List Line → ℕ → Bool → Yard → List Line → Type 0
Went tables y lines i true z longer =
    (z ≡ moved y i) × IsLine tables y (move_line tables y i) × (longer ≡ lines ++ move_line tables y i ∷ [])
Went tables y lines i false z longer =
    (z ≡ y) × (longer ≡ lines) × (Move (in_force tables y) y.positions i (advance y.positions i) → ⊥)
