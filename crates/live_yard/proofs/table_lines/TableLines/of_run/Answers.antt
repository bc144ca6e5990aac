use Rattle.std.proofs.Common.{ℕ, ◌<◌, List, sym, ap, subst, ◌∙◌, arith}
use Rattle.std.proofs.lemmas.List.{length-set}
use Rattle.rail_model.specs.declared.types.Line.{Line}
use Rattle.rail_model.specs.Yard.{Yard, opening}
use Rattle.live_yard.specs.GrantedLines.{WasTried}
use Rattle.live_yard.proofs.Answered.{next_answered}
use Rattle.live_yard.proofs.Trying.{tried_line}
use Rattle.live_yard.proofs.table_lines.TableLines.of_run.Goals as goal

pub answer_of-requires-clause-there : goal.answer_of-requires-clause-there
answer_of-requires-clause-there g c =
    let keeps = c.last_tried-table-end.ensures.keeps in
    let done = ap (λ (y : Yard). y.tried) keeps.reached in
    let read = c.last_tried-table-end.ensures.tried in
    subst (λ (lines : List Line). (n : ℕ) × WasTried lines c.loop-table.table n) (sym c.lines.ensures)
    (tried_line _ (opening keeps.start) _ c.loop-table.table keeps.right (omega arith) (omega (arith, done, read)))

pub loop-table-preserved : goal.loop-table-preserved
loop-table-preserved g c =
    let few : c.loop-table.table < 17 = omega (arith, c.last_tried-table-end.ensures.tables) in
    record {
      room = length-set c.loop-table.numbers c.loop-table.table c.answer_of.result ∙ c.loop-table.invariant.room;
      before =
          next_answered c.args.run.now.lines c.loop-table.numbers c.loop-table.table c.answer_of.result (omega arith)
          (subst (λ (lines : List Line). WasTried lines c.loop-table.table c.answer_of.result) c.lines.ensures
          c.answer_of.ensures)
          c.loop-table.invariant.before;
    }

pub returns : goal.returns
returns g c =
    let read = c.last_tried-table-end.ensures.tried in
    record {
      room = c.loop-table.invariant.room;
      each = λ t some upto. c.loop-table.invariant.before t some (omega (arith, read, upto));
    }
