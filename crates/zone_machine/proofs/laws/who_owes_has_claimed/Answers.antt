use Rattle.zone_machine.proofs.laws.who_owes_has_claimed.Goals as goal

pub returns : goal.returns
returns c = λ S w p a s at owes. s.entered p a at owes
