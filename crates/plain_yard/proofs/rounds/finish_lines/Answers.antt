use Rattle.std.proofs.Common.{◌≡◌, ◌<◌, ◌≤◌, ◌+◌, ◌-◌, ◌%◌, ℕ, List, map, subst, arith, sym, ap, ◌∙◌}
use Rattle.rail_model.specs.declared.types.Line.{Line}
use Rattle.rail_model.specs.Table.{trains}
use Rattle.rail_model.specs.Yard.{offer, in_force, Yard}
use Rattle.rail_model.specs.Move.{Live, Move, advance}
use Rattle.plain_yard.proofs.Turns.{Turn, Skips, declines, goes, done, finishes, falls, same_trains}
use Rattle.plain_yard.proofs.rounds.finish_lines.Goals as goal

pub loop-asked-smaller-then-go : goal.loop-asked-smaller-then-go
loop-asked-smaller-then-go g c =
    let tables = map g.A.HasTable.offer c.args.tables.now in
    let i = (c.loop-asked.before + 1 + c.loop-asked.asked) % c.trains_of-trains.result in
    let went = c.if-go.ensures.went in
    falls tables c.loop-asked.yard c.go.new.yard c.try_due-then-go.new.yard i c.loop-asked.asked went.1.0 went.0
    c.try_due-then-go.ensures.moved c.try_due-then-go.ensures.ready.stands.tried c.loop-asked.invariant.turn.formed c.try_due-then-go.ensures.formed

pub loop-asked-preserved-then-go : goal.loop-asked-preserved-then-go
loop-asked-preserved-then-go g c =
    let tables = map g.A.HasTable.offer c.args.tables.now in
    let n = c.trains_of-trains.result in
    let i = (c.loop-asked.before + 1 + c.loop-asked.asked) % n in
    let y = c.loop-asked.yard in
    let w = c.try_due-then-go.new.yard in
    let size : n ≡ trains (in_force tables y) = c.loop-asked.invariant.size in
    let new_size : n ≡ trains (in_force tables w) = size ∙ same_trains tables y w c.requires.are c.loop-asked.invariant.ready.stands c.try_due-then-go.ensures.ready.stands in
    let within : i < trains (in_force tables w) = omega (arith, c.loop-asked-test.true) in
    let more : c.loop-asked.asked < trains (in_force tables y) = omega (arith, c.loop-asked-test.true) in
    record {
      ready = c.try_due-then-go.ensures.ready;
      room = c.try_due-then-go.ensures.room ∙ c.go.ensures.room ∙ c.loop-asked.invariant.room;
      live = c.try_due-then-go.ensures.live;
      size = new_size;
      turn = goes tables c.args.yard.now y c.go.new.yard w _ c.loop-asked.before c.loop-asked.asked i _ _ _ _ more (ap (λ (m : ℕ). (c.loop-asked.before + 1 + c.loop-asked.asked) % m) size) within
          c.if-go.ensures.went (c.try_due-then-go.ensures.reaches i) c.try_due-then-go.ensures.formed c.try_due-then-go.ensures.none c.loop-asked.invariant.turn;
    }

pub loop-asked-preserved : goal.loop-asked-preserved
loop-asked-preserved g c =
    let tables = map g.A.HasTable.offer c.args.tables.now in
    let n = c.trains_of-trains.result in
    let y = c.loop-asked.yard in
    let size : n ≡ trains (in_force tables y) = c.loop-asked.invariant.size in
    let went = c.if-go.ensures.went in
    let none : Skips tables y c.loop-asked.before c.loop-asked.asked = subst (λ (m : ℕ). Move (in_force tables y) y.positions ((c.loop-asked.before + 1 + c.loop-asked.asked) % m) (advance y.positions ((c.loop-asked.before + 1 + c.loop-asked.asked) % m)) → ⊥) size went.2 in
    let turn = declines tables c.args.yard.now y _ c.loop-asked.before c.loop-asked.asked _ _ (omega (arith, c.loop-asked-test.true)) none c.loop-asked.invariant.turn in
    record {
      ready = c.go.ensures.ready;
      room = c.go.ensures.room ∙ c.loop-asked.invariant.room;
      live = subst (λ (z : Yard). Live (in_force tables z)) (sym went.0) c.loop-asked.invariant.live;
      size = size ∙ sym (ap (λ (z : Yard). trains (in_force tables z)) went.0);
      turn = subst (λ (z : Yard). Turn tables c.args.yard.now (trains (offer tables 0).table - 1) c.args.lines.now.items z c.loop-asked.before (c.loop-asked.asked + 1) c.go.new.lines.items) (sym went.0)
          (subst (λ (ls : List Line). Turn tables c.args.yard.now (trains (offer tables 0).table - 1) c.args.lines.now.items y c.loop-asked.before (c.loop-asked.asked + 1) ls) (sym went.1) turn);
    }

pub returns-clause-done : goal.returns-clause-done
returns-clause-done g c =
    let tables = map g.A.HasTable.offer c.args.tables.now in
    let all : trains (in_force tables c.loop-asked.yard) ≤ c.loop-asked.asked = omega (arith, c.loop-asked.invariant.size, c.loop-asked-test.false) in
    done tables c.args.yard.now c.loop-asked.yard _ c.loop-asked.before c.loop-asked.asked _ _ c.loop-asked.invariant.ready.stands.legal c.loop-asked.invariant.live all c.loop-asked.invariant.turn

pub returns-clause-round : goal.returns-clause-round
returns-clause-round g c =
    finishes (map g.A.HasTable.offer c.args.tables.now) c.args.yard.now c.loop-asked.yard _ c.loop-asked.before c.loop-asked.asked _ _ (returns-clause-done g c)
    c.loop-asked.invariant.turn
