-- What came of one try at a block of steps under one table.
use Rattle.std.specs.Prelude.{◌≡◌, ◌≢◌, ℕ, suc, ◌+◌, ◌<◌, ◌≤◌, List, [], ◌∷◌, ◌++◌, length, true, false, Option, Some, None}
use Rattle.std.specs.Option.{option_map_or}
use Rattle.atomic_table.specs.Seated.{TableId}
use Rattle.rail_model.specs.declared.types.BlockAsk.{BlockAsk}
use Rattle.rail_model.specs.Yard.{offer}
use Rattle.zone_locks.specs.Zones.{has}
use Rattle.move_claim.specs.Claims.{claim_of, zones_of}
use Rattle.zone_yard.specs.declared.requests.Attempt.{Attempt}
use Rattle.zone_yard.specs.declared.requests.Attempt.TheVariants.{Told, Busy}
use Rattle.zone_yard.specs.declared.requests.Wanted.{Wanted}
use Rattle.zone_yard.specs.Setup.{most_passes}
use Rattle.zone_yard.specs.Passes.{Try, StartsWith}
use Rattle.zone_yard.specs.Blocks.{granted_steps, IsAnswered}
use Rattle.zone_yard.specs.Views.{pass_of, Seat}
use Rattle.zone_yard.specs.Aboard.{IsIdle}

-- A needed zone was held by another pass, by the last try. All zones are given back.
pub record RefusesZone (zones : ℕ) (needed : List ℕ) (old new : Seat) (zone found : ℕ) : Type 0 where
  pub low : zone < zones
  pub wanted : has zone needed ≡ true
  pub another : (found ≢ 0) × (found ≢ suc old.view.number) × (found ≤ most_passes)
  pub earlier : List Try
  pub tries : new.view.tries ≡ old.view.tries ++ earlier ++ record { zone = zone; found = found; glanced = option_map_or (λ t. t) old.view.actor.glance 0 } ∷ []
  pub now : new ≡ record old {
    view = record old.view { tries = new.view.tries; actor = record old.view.actor { held = []; known = []; closing = false; glance = new.view.actor.glance } };
  }

-- Another table is in force. All zones are given back.
pub record Moves (table : ℕ) (old new : Seat) : Type 0 where
  pub tries : StartsWith new.view.tries old.view.tries
  pub noted : old.view.noted ≤ new.view.noted
  pub listed : new.view.noted < length old.view.setup.tables
  pub another : new.view.noted ≢ table
  pub now : new ≡ record old {
    view = record old.view {
      tries = new.view.tries;
      noted = new.view.noted;
      actor = record old.view.actor { held = []; known = []; closing = false; glance = new.view.actor.glance };
    };
  }

-- The pass is aboard and idle, this many places further, and has no slot.
pub record IsBack (places : ℕ) (old new : Seat) : Type 0 where
  pub aboard : new.view.aboard ≡ true
  pub idle : IsIdle (old.view.actor.position + places) new.view.actor
  pub slots : new.slots ≡ old.slots

-- The pass was answered about the steps asked for, and is idle where the granted ones end.
abbrev pub IsToldBlock : TableId → ℕ → BlockAsk → ℕ → ℕ → Seat → Seat → Type 0
IsToldBlock id asked answer steps ticket old new =
    IsAnswered asked answer steps ticket (pass_of id old.view) (pass_of id new.view) × IsBack (granted_steps steps answer) old new

-- It was answered, or a zone was held, or another table is in force.
abbrev pub Attempts : TableId → Wanted → ℕ → List ℕ → Seat → Option Attempt → Seat → Type 0
Attempts id w zones needed old (Some (Told answer steps ticket)) new = IsToldBlock id w.steps answer steps ticket old new
Attempts id w zones needed old (Some (Busy zone holder)) new = RefusesZone zones needed old new zone (suc holder)
Attempts id w zones needed old None new = Moves w.table old new

-- Only tries and looks at the table were added since.
pub record Since (old new : Seat) : Type 0 where
  pub tries : StartsWith new.view.tries old.view.tries
  pub noted : old.view.noted ≤ new.view.noted
  pub now : new ≡ record old { view = record old.view { tries = new.view.tries; noted = new.view.noted; actor = record old.view.actor { glance = new.view.actor.glance } } }

-- The last try found a zone held by another pass that the steps need under the table that was glanced.
pub record TurnsAway (asked : ℕ) (old new : Seat) (zone found : ℕ) : Type 0 where
  pub earlier : List Try
  pub table : ℕ
  pub tries : new.view.tries ≡ old.view.tries ++ earlier ++ record { zone = zone; found = found; glanced = table } ∷ []
  pub another : (found ≢ 0) × (found ≢ suc old.view.number) × (found ≤ most_passes)
  pub listed : table < length old.view.setup.tables
  pub needed : has zone (zones_of old.view.setup.layout (offer old.view.setup.tables table).table (claim_of (offer old.view.setup.tables table).table old.view.number old.view.actor.position asked)) ≡ true
  pub since : Since old new

-- The request was answered, or a zone was held.
abbrev pub Asks : TableId → ℕ → Seat → Attempt → Seat → Type 0
Asks id asked old (Told answer steps ticket) new = IsToldBlock id asked answer steps ticket old new
Asks id asked old (Busy zone holder) new = TurnsAway asked old new zone (suc holder)
