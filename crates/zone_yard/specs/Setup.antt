-- What a shared yard is made with.
use Rattle.std.specs.Prelude.{ℕ, ◌*◌, ◌<◌, ◌≤◌, ◌^◌, List, length}
use Rattle.atomic_table.specs.Seated.{TableId}
use Rattle.rail_model.specs.declared.types.Entry.{Entry}
use Rattle.rail_model.specs.Layout.{Layout}
use Rattle.rail_model.specs.Plain.{Plain}
use Rattle.rail_model.specs.Yard.{Offer, Yard, offer, after, IsHistory}
use Rattle.plain_yard.specs.Keeps.{Keeps}
use Rattle.rail_model.specs.Ways.{IsOn}
use Rattle.zone_machine.specs.World.{Setup as CoreSetup}

-- A layout, the tables that are offered, the state in which the yard opens with the lines that led to it, and how many entries a pass
-- may make.
pub record Setup : Type 0 where
  pub layout : Layout
  pub tables : List Offer
  pub opening : Plain
  pub calls : ℕ

-- A shared yard: which one it is, and what it was made with.
pub record SharedYard : Type 0 where
  pub id : TableId
  pub setup : Setup

-- how many passes a yard can have: 32 trains and the control
abbrev pub most_passes : ℕ
most_passes = 33

-- the yard's core, with room for all entries
abbrev pub core : Setup → CoreSetup
core S = record { layout = S.layout; tables = S.tables; opening = S.opening.yard; most = most_passes * S.calls }

-- the state of the yard after a history
abbrev pub state_after : Setup → List Entry → Yard
state_after S H = after S.opening.yard H

-- Each entry of the history has the one-thread yard's answer, from the opening state on.
abbrev pub IsLegalHistory : Setup → List Entry → Type 0
IsLegalHistory S H = IsHistory S.tables S.opening.yard H

-- Tables of this layout, an opening state that a legal run of them led to, and room for at least one entry of a pass.
pub record IsSetup (S : Setup) : Type 0 where
  pub keeps : Keeps S.tables S.opening.yard S.opening.lines
  pub on : (t : ℕ) → t < length S.tables → IsOn S.layout (offer S.tables t).table
  pub some_calls : 1 ≤ S.calls
  pub few_calls : S.calls < 2 ^ 32
