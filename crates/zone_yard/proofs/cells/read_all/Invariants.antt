use Rattle.zone_yard.proofs.Prelude.{◌≡◌, ◌≢◌, ◌+◌, ◌<◌, ◌≤◌, ℕ, length, Some, false, slice_get, is_none, Cell, number_of, AreAllSmall}
use Rattle.zone_yard.specs.Holding.{Knows}
use Rattle.zone_yard.proofs.cells.read_all.Given as goal

abbrev pub invariant-loop-cell : goal.invariant-loop-cell
invariant-loop-cell l = record {
  table : l.seat.table_id ≡ l.initial.seat.table_id;
  id : l.seat.id ≡ l.initial.seat.id;
  knows : Knows l.initial.seat.me l.seat.me l.known;
  small : AreAllSmall l.known;
  room : length l.known ≤ length l.initial.known + l.cell-index;
  seen : (j : ℕ) (c : Cell) → j < l.cell-index → slice_get l.cells j ≡ Some c → is_none (number_of c l.known) ≡ false;
  others : (c : Cell) → ((k : ℕ) (d : Cell) → slice_get l.cells k ≡ Some d → d ≢ c) → number_of c l.known ≡ number_of c l.initial.known;
}

abbrev pub ghosts-read : goal.ghosts-read
ghosts-read a = record { cell = a.cell }
