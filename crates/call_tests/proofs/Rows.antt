-- Worked rows.
use Rattle.std.proofs.Common.{refl}
use Rattle.either.specs.declared.Either.TheVariants.{Left, Right}
use Rattle.zone_yard.specs.Passes.{Pass}
use Rattle.call_tests.specs.Players.{IsOf}

-- a train's pass and the control's are of their yards
of_its_yard : (pass : Pass) → IsOf pass.yard (Left pass) × IsOf pass.yard (Right pass)
of_its_yard pass = (refl, refl)
