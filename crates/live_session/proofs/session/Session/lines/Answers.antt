use Rattle.move_journal.proofs.Named.{named_right}
use Rattle.rail_model.specs.Yard.{opening}
use Rattle.live_session.proofs.session.Session.lines.Goals as goal

pub returns-clause-named : goal.returns-clause-named
returns-clause-named g c =
    let s = c.args.self.now in
    let keeps = c.run.ensures.reported.keeps in
    named_right s.names s.dispatch.yard.run.tables
    (opening keeps.start) s.dispatch.yard.run.lines c.run.ensures.enough keeps.are.some keeps.right
