use Rattle.std.proofs.Common.{◌∙◌, ◌<◌, length, sym, ap, subst, rules}
use Rattle.document_json.specs.Retimed.{AreTimesOf, retimed}
use Rattle.delayed_documents.specs.Delayed.{IsTrain, LeadsTo}
use Rattle.delayed_documents.proofs.LaterTimes.{delayed-are-times, retimed-is-delayed}
use Rattle.delayed_documents.proofs.delaying.delayed.Goals as goal

pub with_times-requires : goal.with_times-requires
with_times-requires c =
    let D = c.args.doc in
    let in_range : c.in-Some.train < length D.trains = search rules in
    subst (AreTimesOf D) (sym c.in_ok-times.ensures)
    (delayed-are-times D c.names_of.ensures.formed c.in-Some.train in_range c.args.delay.now c.in_default-too_long.ensures)

pub returns-clause-delayed : goal.returns-clause-delayed
returns-clause-delayed c =
    let D = c.args.doc in
    let i = c.in-Some.train in
    let called : IsTrain D i c.args.delay.now.train.now = search rules in
    let leads : LeadsTo D i c.args.delay.now.point.now = search rules in
    record {
      train = i;
      called = called;
      leads = leads;
      fits = c.in_default-too_long.ensures;
      is = c.with_times.ensures ∙ ap (retimed D) c.in_ok-times.ensures ∙ retimed-is-delayed D i c.args.delay.now;
    }
