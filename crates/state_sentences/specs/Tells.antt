-- What a text on a state tells.
use Rattle.std.specs.Prelude.{◌≡◌, ℕ, List, String}
use Rattle.std.specs.declared.alloc.Global.{Global}
use Rattle.rail_model.specs.Names.{Names}
use Rattle.rail_model.specs.Table.{Table, IsTable}
use Rattle.rail_model.specs.State as state
use Rattle.rail_model.specs.Move.{Move}
use Rattle.rail_model.specs.Move as stuck
use Rattle.state_core.specs.Core.{IsCore}
use Rattle.state_sentences.specs.declared.closing.Verdict.{Verdict}
use Rattle.state_sentences.specs.declared.closing.Verdict.TheVariants.{Arrived, Going, Stuck}
use Rattle.state_sentences.specs.Circle.{IsCircleOrNone}
use Rattle.state_sentences.specs.Knot.{IsKnotOrNone}
use Rattle.state_sentences.specs.Text.{explanation}

-- Some train has a move.
abbrev pub HasMove : Table → List ℕ → Type 0
HasMove T p = (i : ℕ) × (q : List ℕ) × Move T p i q

-- All trains have arrived, some train has a move, or the state is stuck.
abbrev pub IsVerdict : Table → List ℕ → Verdict → Type 0
IsVerdict T p Arrived = state.Arrived T p
IsVerdict T p Going = HasMove T p
IsVerdict T p Stuck = stuck.Stuck T p

-- The text tells by names of trains, points and sections: for each train of the state what it is told, a circle exactly if there is one, a knot exactly if there is one,
-- and whether the state is stuck.
pub record Tells (N : Names) (S : List (String Global)) (T : Table) (p : List ℕ) (t : ℕ) (text : List ℕ) : Type 0 where
  pub circle : List ℕ
  pub knot : List ℕ
  pub verdict : Verdict
  pub is_circle : IsCircleOrNone T p circle
  pub is_knot : IsKnotOrNone T p knot
  pub is_verdict : IsVerdict T p verdict
  pub is_text : text ≡ explanation N S T p t circle knot verdict

-- Of a stuck state a text tells a knot.
abbrev pub StuckStatesHaveKnots : Type 0
StuckStatesHaveKnots =
    (N : Names) (S : List (String Global)) (T : Table) (p : List ℕ) (t : ℕ) (text : List ℕ) → IsTable T → stuck.Stuck T p → (told : Tells N S T p t text) →
    IsCore T p told.knot
