-- Passes of a scene.
use Rattle.std.specs.Prelude.{◌≡◌}
use Rattle.either.specs.declared.Either.{Either}
use Rattle.either.specs.Either.{either}
use Rattle.zone_yard.specs.Setup.{SharedYard}
use Rattle.zone_yard.specs.Passes.{Pass}

-- The pass, of a train or of the control, is of this yard.
abbrev pub IsOf : SharedYard → Either Pass Pass → Type 0
IsOf yard player = (either (λ (p : Pass). p) (λ (p : Pass). p) player).yard ≡ yard
