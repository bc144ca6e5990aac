-- What a pass holds while it takes its zones and gives them back.
use Rattle.std.specs.Prelude.{◌≡◌, ◌≢◌, ℕ, suc, ◌-◌, ◌<◌, ◌≤◌, ◌^◌, List, [], ◌∷◌, ◌++◌, filter, true, false, Option, Some, None, slice_get, length, if◌then◌else◌}
use Rattle.std.specs.Option.{option_map_or}
use Rattle.std.specs.List.{range_with_len}
use Rattle.zone_locks.specs.Zones.{has}
use Rattle.move_claim.specs.declared.cells.Cell.{Cell}
use Rattle.move_claim.specs.Cells.{number_of}
use Rattle.rail_model.specs.Table.{Table}
use Rattle.rail_model.specs.declared.types.BlockAsk.{BlockAsk}
use Rattle.move_claim.specs.declared.claims.Claim.{Claim}
use Rattle.move_claim.specs.Deciding.{effects}
use Rattle.zone_machine.specs.Entries.{is_granted}
use Rattle.zone_machine.specs.World.{Setup as CoreSetup, is_cell, may_read}
use Rattle.zone_yard.specs.Views.{Seat}
use Rattle.zone_yard.specs.Setup.{most_passes}
use Rattle.zone_yard.specs.Passes.{Try, StartsWith}

-- those of n zones from k on that are needed
abbrev pub span : List ℕ → ℕ → ℕ → List ℕ
span needed k n = filter (λ z. has z needed) (range_with_len k n)

-- The pass holds these zones now, and has only noted tries besides.
pub record HoldsZones (old new : Seat) (held : List ℕ) : Type 0 where
  pub tries : StartsWith new.view.tries old.view.tries
  pub now : new ≡ record old { view = record old.view { tries = new.view.tries; actor = record old.view.actor { held = held } } }

-- The last try found a needed zone held by another pass, and all needed zones below it are held.
pub record Meets (zones : ℕ) (needed : List ℕ) (old new : Seat) (zone found : ℕ) : Type 0 where
  pub low : zone < zones
  pub wanted : has zone needed ≡ true
  pub another : (found ≢ 0) × (found ≢ suc old.view.number) × (found ≤ most_passes)
  pub earlier : List Try
  pub tries : new.view.tries ≡ old.view.tries ++ earlier ++ record { zone = zone; found = found; glanced = option_map_or (λ t. t) old.view.actor.glance 0 } ∷ []
  pub now : new ≡ record old { view = record old.view { tries = new.view.tries; actor = record old.view.actor { held = span needed 0 zone } } }

-- All needed zones were taken, or one was found held.
abbrev pub TakesAll : ℕ → List ℕ → Seat → Option (ℕ × ℕ) → Seat → Type 0
TakesAll zones needed old None new = HoldsZones old new (span needed 0 zones)
TakesAll zones needed old (Some met) new = Meets zones needed old new met.0 met.1

-- The needed zones below k were given back, of those below the top.
pub record GivesBack (needed : List ℕ) (k top : ℕ) (old new : Seat) : Type 0 where
  pub bare : new.view.actor.held ≡ [] → (new.view.actor.known ≡ []) × (new.view.actor.closing ≡ false)
  pub now : new ≡ record old {
    view = record old.view {
      actor = record old.view.actor { held = span needed k (top - k); known = new.view.actor.known; closing = new.view.actor.closing; glance = new.view.actor.glance };
    };
  }

-- All zones were given back, and what was known under them is forgotten.
abbrev pub Frees : Seat → Seat → Type 0
Frees old new = new ≡ record old { view = record old.view { actor = record old.view.actor { held = []; known = []; closing = false; glance = new.view.actor.glance } } }

-- The pass knows this now, and nothing else was changed.
abbrev pub Knows : Seat → Seat → List (Cell × ℕ) → Type 0
Knows old new known = new ≡ record old { view = record old.view { actor = record old.view.actor { known = known } } }

-- Each known number is below 2^31.
abbrev pub AreAllSmall : List (Cell × ℕ) → Type 0
AreAllSmall known = (c : Cell) (n : ℕ) → number_of c known ≡ Some n → n < 2 ^ 31

-- There are these cells, and their guards are held.
abbrev pub AreReadable : CoreSetup → List ℕ → List Cell → Type 0
AreReadable S held cells = (k : ℕ) (c : Cell) → slice_get cells k ≡ Some c → (is_cell S c ≡ true) × (may_read S held c ≡ true)

-- There are these cells.
abbrev pub AreCells : CoreSetup → List (Cell × ℕ) → Type 0
AreCells S owed = (k : ℕ) (x : Cell × ℕ) → slice_get owed k ≡ Some x → is_cell S x.0 ≡ true

-- The pass owes this yet, and nothing else was changed.
abbrev pub StillOwes : Seat → List (Cell × ℕ) → Seat → Type 0
StillOwes old owed new = new ≡ record old { view = record old.view { actor = record old.view.actor { owed = owed } } }

-- The pass knows more, and has noted no earlier table. Nothing else was changed.
pub record Learns (old new : Seat) : Type 0 where
  pub noted : old.view.noted ≤ new.view.noted
  pub listed : new.view.noted < length old.view.setup.tables
  pub now : new ≡ record old { view = record old.view { noted = new.view.noted; actor = record old.view.actor { known = new.view.actor.known } } }

-- what an answer makes its pass owe
abbrev pub owing : Table → Claim → (Cell → ℕ) → BlockAsk → List (Cell × ℕ)
owing T c number answer = if is_granted answer then effects T c number else []
