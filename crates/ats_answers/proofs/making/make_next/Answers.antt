use Rattle.ats_answers.proofs.making.make_next.Goals as goal

pub returns-clause-part : goal.returns-clause-part
returns-clause-part c = (c.in_ok-cert.cert, c.in_ok-push.ensures.items, c.in_ok-cert.ensures.made, c.in_ok-cert.ensures.accepted)
