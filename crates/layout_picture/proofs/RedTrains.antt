-- Red trains: those of circles and of the knot; there is one in each stuck state.
use Rattle.std.proofs.Common.{◌≡◌, ◌∙◌, ℕ, Bool, List, [], ◌∷◌, inr, sym}
use Rattle.std.specs.Prelude.{Decides, ◌||◌}
use Rattle.std.proofs.lemmas.Bool.Decides.{Decides-or}
use Rattle.rail_model.specs.Table.{Table, trains}
use Rattle.rail_model.specs.Checks.{below}
use Rattle.state_core.specs.Core.{IsCore, has}
use Rattle.state_core.proofs.Waiting.{stuck_states_have_cores}
use Rattle.state_sentences.specs.Knot.{IsKnotOrNone}
use Rattle.layout_picture.specs.Red.{IsInCircle, IsRed, StuckStatesHaveRed}

-- a train is red if one test says so of circles, or another of the knot
pub decides_red : (T : Table) (p knot : List ℕ) (i : ℕ) (circle member : Bool) → Decides circle (IsInCircle T p i) → member ≡ has knot i
    → Decides (circle || member) (IsRed T p knot i)
decides_red T p knot i circle member in_circle is = Decides-or circle member in_circle (λ e. sym is ∙ e, λ e. is ∙ e)

knot_is_core : (T : Table) (p knot group : List ℕ) → IsKnotOrNone T p knot → IsCore T p group → IsCore T p knot
knot_is_core T p [] group none core = absurd (none group core)
knot_is_core T p (i ∷ later) group least core = least.core

pub stuck_states_have_red : StuckStatesHaveRed
stuck_states_have_red T p knot table stuck is_knot =
    let core = knot_is_core T p knot (below (trains T)) is_knot (stuck_states_have_cores T p table stuck) in
    let first = core.unfinished in
    (first.0, first.1, first.3, inr first.2)
