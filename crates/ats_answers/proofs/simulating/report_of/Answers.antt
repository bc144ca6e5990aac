use Rattle.std.proofs.Common.{◌≡◌, ◌-◌, ℕ, List, sym, ap, subst, arith}
use Rattle.rail_model.specs.Yard.{Offer}
use Rattle.plain_yard.specs.Keeps.{PlainRun}
use Rattle.train_sim.specs.Report.{HaveTimes, IsSoon}
use Rattle.document_json.specs.Doc.{offers_of, times_of}
use Rattle.ats_answers.proofs.Simulated.{have_times}
use Rattle.ats_answers.proofs.simulating.report_of.Goals as goal

pub simulate-requires : goal.simulate-requires
simulate-requires c =
    let D = c.args.doc.now in
    subst (HaveTimes c.in_ok-yard.yard.tables) (sym c.times.ensures.times)
    (subst (λ (tables : List Offer). HaveTimes tables (times_of D)) (sym (ap (λ (run : PlainRun). run.tables) c.in_ok-yard.ensures.run))
    (have_times D c.times.ensures.formed))

pub returns-in-Ok-clause-soon : goal.returns-in-Ok-clause-soon
returns-in-Ok-clause-soon c =
    let moves = c.in-Ok.report.state.yard.moves in
    let tick = c.in-Ok.report.last_tick in
    let tables = offers_of c.args.doc.now in
    let all : moves - 0 ≡ moves = omega arith in
    subst (λ (m : ℕ). IsSoon tables (times_of c.args.doc.now) m tick) all
    (subst (λ (times : List (List (List ℕ))). IsSoon tables times (moves - 0) tick) c.times.ensures.times
    (subst (λ (run : PlainRun). IsSoon run.tables c.times.result.now (moves - run.yard.moves) tick) c.in_ok-yard.ensures.run c.in-Ok.ensures.soon))
