use Rattle.zone_yard.proofs.Prelude.{◌≡◌, ◌<◌, ◌≤◌, ◌∙◌, ℕ, List, length, true, false, sym, ap, subst, ⊎_elim, arith, lt-ltb, is_none, Cell, Position, number_of, put, Seat, core}
use Rattle.std.proofs.lemmas.Bool.{cases_lt}
use Rattle.move_claim.specs.declared.cells.Cell.TheVariants.{Table as TableCell}
use Rattle.zone_machine.specs.World.{holds_all}
use Rattle.zone_machine.proofs.Entering.{none_unknown}
use Rattle.zone_machine.proofs.OwnSteps.{number_of-put_other}
use Rattle.zone_yard.proofs.CellLists.{put-length, put-new, put-seen, knows_next}
use Rattle.zone_yard.proofs.exchanging.read_positions.Goals as goal

pub read-number-requires-clause-guard : goal.read-number-requires-clause-guard
read-number-requires-clause-guard c = (
  lt-ltb c.loop-train.train _ (omega (arith, c.loop-train-test.true, c.trains-train-end.ensures.count)),
  subst (λ l. holds_all (core c.args.yard.now.setup) l ≡ true) (sym (ap (λ (m : Seat). m.view.actor.held) c.loop-train.invariant.knows)) c.requires.guard,
)

pub loop-train-preserved : goal.loop-train-preserved
loop-train-preserved c =
    let here : Cell = Position c.loop-train.train in
    let old = c.loop-train.invariant in
    let found : ℕ = c.read-number.result in
    let now : c.put.new.self ≡ put here found c.loop-train.known = c.put.ensures in
    record {
      table_id = c.read-number.ensures.same.0 ∙ old.table_id;
      id = c.read-number.ensures.same.1 ∙ old.id;
      knows = knows_next here found c.loop-train.known c.put.new.self c.args.seat.now.me c.loop-train.seat.me c.read-number.new.seat.me old.knows c.read-number.ensures.reads now;
      room = (let e = ap length now in let le = put-length here found c.loop-train.known in omega (arith, e, le, old.room));
      read = λ j lt. subst (λ (l : List (Cell × ℕ)). is_none (number_of (Position j) l) ≡ false) (sym now) (⊎_elim
          (λ (before : j < c.loop-train.train). put-seen here (Position j) found c.loop-train.known (old.read j before))
          (λ (le : c.loop-train.train ≤ j).
          let same : c.loop-train.train ≡ j = omega (arith, lt, le) in
          subst (λ k. is_none (number_of (Position k) (put here found c.loop-train.known)) ≡ false) same (put-new here found c.loop-train.known))
          (cases_lt j c.loop-train.train));
      table = ap (number_of TableCell) now ∙ (number_of-put_other here TableCell found c.loop-train.known (λ e. absurd (cc e)) ∙ old.table);
    }

pub returns-clause-all : goal.returns-clause-all
returns-clause-all c = sym (none_unknown c.loop-train.known _ (λ j lt. c.loop-train.invariant.read j (omega (arith, lt, c.loop-train-test.false, c.trains-train-end.ensures.count))))
