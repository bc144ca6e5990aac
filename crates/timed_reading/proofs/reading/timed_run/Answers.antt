use Rattle.std.proofs.lemmas.Result.{IfOk-weaker}
use Rattle.timed_reading.specs.Reads.{IsReadFrom, IsTimedRun, ToldBy}
use Rattle.timed_reading.proofs.Inputs.{told_is_read, told_is_run}
use Rattle.timed_reading.proofs.reading.timed_run.Goals as goal

pub returns-in-Ok-clause-run : goal.returns-in-Ok-clause-run
returns-in-Ok-clause-run c =
    let D = c.in-Ok.doc in
    let journal = c.in-Some.journal.now in
    IfOk-weaker c.timed_document.result (ToldBy D journal) IsTimedRun (told_is_run D journal) c.timed_document.ensures

pub returns-in-Ok-clause-exact : goal.returns-in-Ok-clause-exact
returns-in-Ok-clause-exact c =
    let D = c.in-Ok.doc in
    let input = c.args.input.now in
    let given = c.in-Some.given.now in
    let journal = c.in-Some.journal.now in
    IfOk-weaker c.timed_document.result (ToldBy D journal) (IsReadFrom input)
    (told_is_read input given journal D c.in-Ok.ensures c.in-Some.ensures) c.timed_document.ensures
