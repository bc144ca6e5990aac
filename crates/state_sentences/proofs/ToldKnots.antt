-- Knots: cores that are told, and states that have none.
use Rattle.std.proofs.Common.{◌≡◌, ◌==◌, ℕ, true≢false, List, [], ◌∷◌, refl, sym, subst}
use Rattle.std.proofs.lemmas.Bool.{eq-eqb}
use Rattle.rail_model.specs.Table.{Table, trains}
use Rattle.rail_model.specs.Checks.{below}
use Rattle.state_core.specs.Core.{IsCore}
use Rattle.state_core.specs.Least.{HasNoCore, IsLeastCore}
use Rattle.state_core.proofs.Tests.{some_below}
use Rattle.state_core.proofs.Waiting.{stuck_states_have_cores}
use Rattle.state_sentences.specs.Knot.{IsKnotOrNone}
use Rattle.state_sentences.specs.Tells.{StuckStatesHaveKnots}

-- a least core is a knot
pub knot_from : (T : Table) (p knot : List ℕ) → IsLeastCore T p knot → IsKnotOrNone T p knot
knot_from T p [] least = absurd (true≢false (sym least.core.unfinished.2))
knot_from T p (i ∷ later) least = least

-- where no core is among all trains, the state has none
pub no_knot : (T : Table) (p group : List ℕ) → group ≡ below (trains T) → HasNoCore T p group → IsKnotOrNone T p []
no_knot T p group all none = λ core is_core.
    subst (HasNoCore T p) all none core is_core (λ i lt member. some_below (λ k. k == i) (trains T) i lt (eq-eqb i i refl))

knot_if_core : (T : Table) (p knot group : List ℕ) → IsKnotOrNone T p knot → IsCore T p group → IsCore T p knot
knot_if_core T p [] group none core = absurd (none group core)
knot_if_core T p (i ∷ later) group least core = least.core

pub stuck_states_have_knots : StuckStatesHaveKnots
stuck_states_have_knots N S T p t text table stuck told =
    knot_if_core T p told.knot (below (trains T)) told.is_knot (stuck_states_have_cores T p table stuck)
