use Rattle.zone_yard.proofs.passes.seat_of.Given as goal

abbrev pub ghosts-board_seat : goal.ghosts-board_seat
ghosts-board_seat a = record { number = a.number }
