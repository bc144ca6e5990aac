-- What a train is told, with all that the text on it names.
use Rattle.std.specs.Prelude.{◌≡◌, ℕ, ◌+◌, ◌<◌, ◌≤◌, pos, List, length, Some, slice_get}
use Rattle.rail_model.specs.Names.{Names}
use Rattle.rail_model.specs.Table.{Table, Connection, trains, change, limit, place, point}
use Rattle.live_yard.specs.declared.told.Told.{Told}
use Rattle.live_yard.specs.declared.told.Told.TheVariants.{May, Arrived, Occupied, Full, Waits, Away, Leaving, Clearing}
use Rattle.live_answers.specs.Causes.{in_the_way}
use Rattle.live_answers.specs.Seen.{Seen}
use Rattle.live_lines.specs.declared.told.Spot.{Spot}
use Rattle.live_lines.specs.declared.told.Room.{Room}
use Rattle.live_lines.specs.declared.told.Cause.{Cause}
use Rattle.live_lines.specs.declared.told.Cause.TheVariants as cause
use Rattle.live_lines.specs.declared.told.Prospect.{Prospect}
use Rattle.live_lines.specs.declared.told.Prospect.TheVariants as prospect

-- Each train and each point of the table has a name.
pub record HasNames (N : Names) (T : Table) : Type 0 where
  pub trains : trains T ≤ length N.trains
  pub points : (i k q : ℕ) → point T i k ≡ Some q → q < length N.points

-- a train at one of its places
abbrev pub spot_at : Seen → ℕ → ℕ → Spot
spot_at v i k = record { train = i; place = k; point = point v.table i k }

-- a train at its next place
abbrev pub next_spot : Seen → ℕ → Spot
next_spot v i = spot_at v i (place v.positions i + 1)

-- A section without room for the move of train i, and the trains that count there.
pub record IsRoom (v : Seen) (i s n : ℕ) (counting : List ℕ) (room : Room) : Type 0 where
  pub section : room.section ≡ s
  pub count : room.count ≡ n
  pub more : change v.table i s (place v.positions i + 1) ≡ pos room.more
  pub limit : room.limit ≡ limit v.table s
  pub by : room.by.now ≡ counting

-- Why train i has to wait that was told this.
abbrev pub IsCause : Seen → ℕ → Told → Cause → Type 0
IsCause v i (Occupied by) (cause.Occupied j) = j ≡ by
IsCause v i (Full s n) (cause.Full room) = IsRoom v i s n (in_the_way v (Full s n)) room
IsCause v i (Waits c) (cause.Connection d j k) =
    (d ≡ c) × ((held : Connection) × (slice_get v.table.connections c ≡ Some held) × (j ≡ held.other)
    × (k ≡ held.reached))
IsCause v i Away (cause.Away k) = k ≡ place v.positions i
IsCause v i (Leaving by) (cause.Leaving j) = j ≡ by
IsCause v i (Clearing s n) (cause.Clearing room) = IsRoom v i s n (in_the_way v (Clearing s n)) room
IsCause v i told why = ⊥

-- What train i was told, with what the text names.
abbrev pub IsProspect : Seen → ℕ → Told → Prospect → Type 0
IsProspect v i May (prospect.May next) = next ≡ next_spot v i
IsProspect v i Arrived (prospect.Arrived j k) = (j ≡ i) × (k ≡ place v.positions i)
IsProspect v i told (prospect.Waits next why) = (next ≡ next_spot v i) × IsCause v i told why
IsProspect v i told other = ⊥
