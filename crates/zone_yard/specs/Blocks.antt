-- What the answer to a block of steps tells its pass.
use Rattle.std.specs.Prelude.{◌≡◌, ◌≢◌, ℕ, ◌<◌, List, [], ◌∷◌, replicate}
use Rattle.rail_model.specs.declared.types.Ask.TheVariants.{Yes as Granted}
use Rattle.rail_model.specs.declared.types.BlockAsk.{BlockAsk}
use Rattle.rail_model.specs.declared.types.BlockAsk.TheVariants.{Yes, First, NotWhole}
use Rattle.rail_model.specs.declared.types.Reply.{Reply}
use Rattle.rail_model.specs.declared.types.Reply.TheVariants as reply
use Rattle.rail_model.specs.declared.types.Entry.{Entry}
use Rattle.rail_model.specs.Yard.{offer, in_force}
use Rattle.move_claim.specs.Claims.{Footprint, claim_of, footprint_of}
use Rattle.zone_yard.specs.declared.requests.Wanted.{Wanted}
use Rattle.zone_yard.specs.Setup.{Setup, state_after}
use Rattle.zone_yard.specs.Passes.{Pass}
use Rattle.zone_yard.specs.Entering.{Enters}

-- what the steps need of a train that stands there
abbrev pub needs : Setup → Wanted → ℕ → Footprint
needs S w a =
    let T = (offer S.tables w.table).table in
    footprint_of S.layout T (claim_of T w.train a w.steps)

-- what the answer to n steps tells: a grant of each, or the one reply that there is
abbrev pub replies_of : ℕ → BlockAsk → List Reply
replies_of n Yes = replicate n (reply.Driver Granted)
replies_of n (First ask) = reply.Driver ask ∷ []
replies_of n (NotWhole step ask) = reply.NotWhole step ask ∷ []

-- how many of n steps the answer grants
abbrev pub granted_steps : ℕ → BlockAsk → ℕ
granted_steps n Yes = n
granted_steps n _ = 0

-- The answer can be one to n steps: there are some, and all of them are granted; or the first isn't; or a later one isn't.
abbrev pub CanAnswer : ℕ → BlockAsk → Type 0
CanAnswer n Yes = 0 < n
CanAnswer n (First ask) = ask ≢ Granted
CanAnswer n (NotWhole step ask) = (0 < step) × (step < n)

-- how many of the steps asked for remain to a pass under the table in force after a history
abbrev pub steps_left : Pass → List Entry → ℕ → ℕ
steps_left pass H asked =
    let S = pass.yard.setup in
    (claim_of (in_force S.tables (state_after S H)) pass.number pass.position asked).steps

-- Those of the steps asked for that remain were answered so, in entries at this ticket and the places after it.
pub record IsAnswered (asked : ℕ) (answer : BlockAsk) (steps ticket : ℕ) (old new : Pass) : Type 0 where
  pub entered : Enters ticket (replies_of steps answer) old new
  pub remain : steps ≡ steps_left old entered.before asked
  pub can : CanAnswer steps answer
