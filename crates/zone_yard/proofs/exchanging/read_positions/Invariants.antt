use Rattle.zone_yard.proofs.Prelude.{◌≡◌, ◌+◌, ◌<◌, ◌≤◌, ℕ, length, false, number_of}
use Rattle.move_claim.specs.declared.cells.Cell.TheVariants.{Table as TableCell}
use Rattle.zone_machine.proofs.Entering.{is_unknown}
use Rattle.zone_yard.specs.Holding.{Knows}
use Rattle.zone_yard.proofs.exchanging.read_positions.Given as goal

abbrev pub invariant-loop-train : goal.invariant-loop-train
invariant-loop-train l = record {
  table_id : l.seat.table_id ≡ l.initial.seat.table_id;
  id : l.seat.id ≡ l.initial.seat.id;
  knows : Knows l.initial.seat.me l.seat.me l.known;
  room : length l.known ≤ length l.initial.known + l.train;
  read : (j : ℕ) → j < l.train → is_unknown l.known j ≡ false;
  table : number_of TableCell l.known ≡ number_of TableCell l.initial.known;
}

abbrev pub ghosts-read : goal.ghosts-read
ghosts-read a = record { cell = a.cell }
