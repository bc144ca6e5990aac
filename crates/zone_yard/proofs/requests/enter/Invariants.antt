use Rattle.zone_yard.proofs.requests.enter.Given as goal

abbrev pub ghosts-enter_answer : goal.ghosts-enter_answer
ghosts-enter_answer a = record { steps = a.steps }
