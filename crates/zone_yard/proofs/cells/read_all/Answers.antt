use Rattle.zone_yard.proofs.Prelude.{◌≡◌, ◌<◌, ◌≤◌, ◌∙◌, ℕ, List, length, get_or, true, false, sym, ap, subst, ⊎_elim, arith, slice_get, is_none, slice_get-get_or, Cell, Point, number_of, put, may_read, Seat, core, AreAllSmall}
use Rattle.std.proofs.lemmas.Bool.{cases_lt}
use Rattle.zone_machine.proofs.OwnSteps.{number_of-put_other}
use Rattle.zone_machine.proofs.Places.{same_some}
use Rattle.zone_yard.proofs.CellLists.{put-length, put-small, put-new, put-seen, all_seen, knows_next}
use Rattle.zone_yard.proofs.cells.read_all.Goals as goal

pub read-number-requires-clause-guard : goal.read-number-requires-clause-guard
read-number-requires-clause-guard c =
    let at = c.requires.guard c.loop-cell.cell-index _ (slice_get-get_or c.args.cells.now c.loop-cell.cell-index (Point 0) (omega (arith, c.loop-cell-test.true))) in
    (at.0, subst (λ l. may_read (core c.args.yard.now.setup) l (get_or c.args.cells.now c.loop-cell.cell-index (Point 0)) ≡ true) (sym (ap (λ (m : Seat). m.view.actor.held) c.loop-cell.invariant.knows)) at.1)

pub loop-cell-preserved : goal.loop-cell-preserved
loop-cell-preserved c =
    let k : ℕ = c.loop-cell.cell-index in
    let here : Cell = get_or c.args.cells.now c.loop-cell.cell-index (Point 0) in
    let there = slice_get-get_or c.args.cells.now c.loop-cell.cell-index (Point 0) (omega (arith, c.loop-cell-test.true)) in
    let old = c.loop-cell.invariant in
    let found : ℕ = c.read-number.result in
    let now : c.put.new.self ≡ put here found c.loop-cell.known = c.put.ensures in
    record {
      table = c.read-number.ensures.same.0 ∙ old.table;
      id = c.read-number.ensures.same.1 ∙ old.id;
      knows = knows_next here found c.loop-cell.known c.put.new.self c.args.seat.now.me c.loop-cell.seat.me c.read-number.new.seat.me old.knows c.read-number.ensures.reads now;
      small = subst AreAllSmall (sym now) (put-small here found c.loop-cell.known old.small c.read-number.ensures.small);
      room = (let e = ap length now in let le = put-length here found c.loop-cell.known in omega (arith, e, le, old.room));
      seen = λ j d lt e. subst (λ (l : List (Cell × ℕ)). is_none (number_of d l) ≡ false) (sym now) (⊎_elim
          (λ (before : j < c.loop-cell.cell-index). put-seen here d found c.loop-cell.known (old.seen j d before e))
          (λ (le : c.loop-cell.cell-index ≤ j).
          let same : j ≡ c.loop-cell.cell-index = omega (arith, lt, le) in
          let is : here ≡ d = same_some here d (sym there ∙ (ap (slice_get c.args.cells.now) (sym same) ∙ e)) in
          subst (λ (x : Cell). is_none (number_of x (put here found c.loop-cell.known)) ≡ false) is (put-new here found c.loop-cell.known))
          (cases_lt j c.loop-cell.cell-index));
      others = λ d absent. ap (number_of d) now
          ∙ (number_of-put_other here d found c.loop-cell.known (λ e. absent k here there (sym e)) ∙ old.others d absent);
    }

pub returns-clause-all : goal.returns-clause-all
returns-clause-all c = all_seen c.args.cells.now c.loop-cell.known (λ j d lt e. c.loop-cell.invariant.seen j d (omega (arith, c.loop-cell-test.false)) e)
