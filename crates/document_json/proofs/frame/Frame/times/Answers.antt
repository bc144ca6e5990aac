use Rattle.std.proofs.Common.{sym, ◌∙◌, ap}
use Rattle.document_json.specs.Doc.{times_of}
use Rattle.document_json.proofs.Timed.{times-timed}
use Rattle.document_json.proofs.frame.Frame.times.Goals as goal

pub returns-clause-times : goal.returns-clause-times
returns-clause-times c =
    let own = c.self.inside in
    sym (times-timed own.tables.value.items own.times c.self.invariant.0.each_timed) ∙ ap times_of c.self.view_is
