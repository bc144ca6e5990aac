-- Refusals that are looked for one after another.
use Rattle.std.proofs.Common.{◌≡◌, List, ◌∷◌, Option, Some, None, refl, ◌∙◌}
use Rattle.rail_model.specs.Turns.{first_of}
use Rattle.rail_model.proofs.Firsts.{passed, stopped}

-- The answer is the first of these refusals: what comes before them refuses nothing.
pub record RestsOn {E : Type 0} (answer : Option E) (rows : List (Option E)) : Type 0 where
  pub is : answer ≡ first_of rows

-- a refusal that isn't there is ignored
pub pass : {E : Type 0} {answer r : Option E} {rs : List (Option E)} → RestsOn answer (r ∷ rs) → None ≡ r → RestsOn answer rs
pass {r = r} {rs = rs} left h = record { is = left.is ∙ passed r rs (first_of rs) h refl }

-- one that is there is the answer
pub stop : {E : Type 0} {answer r : Option E} {rs : List (Option E)} {e : E} → RestsOn answer (r ∷ rs) → Some e ≡ r → answer ≡ Some e
stop {r = r} {rs = rs} {e = e} left h = left.is ∙ stopped r rs e h
