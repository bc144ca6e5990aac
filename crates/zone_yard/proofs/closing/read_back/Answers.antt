use Rattle.zone_yard.proofs.Prelude.{◌≡◌, ◌≢◌, ◌++◌, ◌+◌, ◌*◌, ◌-◌, ◌<◌, ◌≤◌, ℕ, List, length, get_or, set, sym, ap, ◌∙◌, subst, arith, get_or-set_same, get_or-set_other, journal_of, place, Yard, Row, Position, word_of, Setup, SharedYard, core, state_after, Root, View, Place, KeepsRule}
use Rattle.std.proofs.Common.{rules, length-set}
use Rattle.std.proofs.lemmas.Grind.{same_number_lists}
use mathlib.Core.Logic.{dite}
use mathlib.Core.Option.{some}
use native.Mathlib.Decide.{ℕ_discrete}
use lib.ListN.{get_elem?}
use Rattle.rail_model.specs.Plain.{Plain}
use Rattle.plain_yard.specs.Keeps.{Keeps}
use Rattle.move_claim.specs.declared.cells.Cell.TheVariants.{Table as TableCell}
use Rattle.zone_yard.specs.Boarding.{Closes}
use Rattle.zone_yard.proofs.Keeps.{St}
use Rattle.zone_yard.proofs.Closed.{ended, size, place_of, table_of, counts, closes}
use Rattle.zone_yard.proofs.closing.read_back.Goals.{After-close_with-closed}
use Rattle.zone_yard.proofs.closing.read_back.Goals as goal

-- the shared table at its end, where nobody is out
module _ (c : After-close_with-closed) where
  abbrev v : View
  v = c.root.inside.seat.me.view

  abbrev s : St
  s = c.close_with-closed.ensures.values.2.0

  made : c.yard.inside.key ≡ v.setup
  made = ap (λ (y : SharedYard). y.setup) (c.yard.view_is ∙ sym c.requires.ours) ∙ sym (ap (λ (x : Root). x.yard.setup) c.root.view_is)

  ours : c.args.yard.setup ≡ v.setup
  ours = ap (λ (y : SharedYard). y.setup) (sym c.requires.ours) ∙ sym (ap (λ (x : Root). x.yard.setup) c.root.view_is)

  k : KeepsRule v.setup s
  k = subst (λ (T : Setup). KeepsRule T s) (c.yard.invariant.key_is ∙ made) c.close_with-closed.ensures.values.2.1.0

  at : get_elem? s.views 0 ≡ some v
  at = subst (λ (p : Place). get_elem? s.views 0 ≡ some p.me.view) c.seat.view_is
      (subst (λ id. get_elem? s.views id ≡ some c.seat.inside.seat.me.0) (ap (λ (p : Place). p.id) c.seat.view_is ∙ c.root.invariant.0.first) c.close_with-closed.ensures.values.2.1.1)

  nobody : v.out ≡ 0
  nobody = ap (λ (x : Root). x.out) c.root.view_is ∙ c.requires.nobody

  abbrev end : Yard
  end = ended v s k at nobody

  opened : Keeps v.setup.tables v.setup.opening.yard v.setup.opening.lines
  opened = subst (λ (T : Setup). Keeps T.tables T.opening.yard T.opening.lines) made c.yard.invariant.keeps

  lines_are : c.args.lines.items ≡ v.setup.opening.lines ++ journal_of v.setup.tables v.setup.opening.yard v.seen
  lines_are = c.requires.lines ∙ ap (λ (x : Root). x.yard.setup.opening.lines ++ journal_of x.yard.setup.tables x.yard.setup.opening.yard x.seen) (sym c.root.view_is)

  long : length c.args.positions ≡ length end.positions
  long = c.requires.positions ∙ (ap (λ (x : Root). length x.yard.setup.opening.yard.positions) (sym c.root.view_is) ∙ sym (size v s k at nobody))

  -- what the words of a train's place and of the table in force say
  place_read : (i m : ℕ) (words : List ℕ) → s.words ≡ words → i < length end.positions → get_elem? words (8 * (c.word_of-first.result + i)) ≡ some m → (m ≡ place end.positions i) × (m ≤ 127)
  place_read i m words same lt found = place_of v s k at nobody i m c.word_of-first.result (c.word_of-first.ensures.word ∙ ap (λ (T : Setup). word_of (core T) (Position 0)) ours) lt
      (subst (λ ws. get_elem? ws (8 * (c.word_of-first.result + i)) ≡ some m) (sym same) found)

  table_read : (m : ℕ) (words : List ℕ) → s.words ≡ words → get_elem? words (8 * c.word_of-at.result) ≡ some m → (m ≡ end.table) × (m < 16)
  table_read m words same found = table_of v s k at nobody m c.word_of-at.result (c.word_of-at.ensures.word ∙ ap (λ (T : Setup). word_of (core T) TableCell) ours)
      (subst (λ ws. get_elem? ws (8 * c.word_of-at.result) ≡ some m) (sym same) found)

  -- how many tables were tried and how many lines there are, by the control's row
  tally : (row : Row) → row ≡ get_or c.root.inside.lines.items 32 row
      → (c.yard.inside.key.opening.yard.tried + length row.items ≡ end.tried) × (length c.args.lines.items ≡ end.moves + end.tried) × (end.tried < 16) × (end.moves ≤ 4064)
  tally row is =
      let count = counts v s k at nobody c.root.inside.lines.items row c.args.lines.items c.root.invariant.1 is opened lines_are in
      (ap (λ (T : Setup). T.opening.yard.tried + length row.items) made ∙ count.0, count.1, count.2, count.3)

pub overflow_cast-word : goal.overflow_cast-word
overflow_cast-word c =
    let closed = (goal.at.overflow_cast-word c).After-close_with-closed in
    let is = place_read closed c.loop-train.train c.word.result _ c.close_with-closed.ensures.values.2.2 (omega (arith, c.loop-train-test.true, c.len-train-end.ensures, long closed)) c.word.ensures in
    omega (arith, is.1)

pub loop-train-preserved : goal.loop-train-preserved
loop-train-preserved c =
    let closed = (goal.at.loop-train-preserved c).After-close_with-closed in
    let inv = c.loop-train.invariant in
    let n = c.loop-train.train in
    let near : n < length c.args.positions = omega (arith, c.loop-train-test.true, c.len-train-end.ensures) in
    let is = place_read closed n c.word.result _ c.close_with-closed.ensures.values.2.2 (omega (arith, near, long closed)) c.word.ensures in
    record {
      size = ap length c.set.ensures ∙ (length-set c.loop-train.positions n c.word.result ∙ inv.size);
      read = λ i lt. ap (λ (l : List ℕ). get_or l i 0) c.set.ensures ∙ dite (ℕ_discrete i n)
          (λ (same : i ≡ n). ap (λ j. get_or (set c.loop-train.positions n c.word.result) j 0) same
          ∙ (get_or-set_same c.loop-train.positions n c.word.result 0 (omega (arith, near, inv.size))
          ∙ (is.0 ∙ (ap (place (end closed).positions) (sym same) ∙ ap (λ (x : Root). place (state_after x.yard.setup x.seen).positions i) c.root.view_is))))
          (λ (ne : i ≢ n). get_or-set_other c.loop-train.positions n i c.word.result 0 ne ∙ inv.read i (omega arith));
    }

pub overflow_cast-table : goal.overflow_cast-table
overflow_cast-table c = let is = table_read (goal.at.overflow_cast-table c).After-close_with-closed c.word-table.result _ c.close_with-closed.ensures.values.2.2 c.word-table.ensures in omega (arith, is.1)

pub overflow_cast-tried : goal.overflow_cast-tried
overflow_cast-tried c =
    let count = tally (goal.at.overflow_cast-tried c).After-close_with-closed c.index.result.now c.index.ensures in
    let row : c.len.result ≡ length c.index.result.now.items = search rules in
    omega (arith, count.0, count.2, row)

pub overflow_add-tried : goal.overflow_add-tried
overflow_add-tried c =
    let count = tally (goal.at.overflow_add-tried c).After-close_with-closed c.index.result.now c.index.ensures in
    let row : c.len.result ≡ length c.index.result.now.items = search rules in
    let tried : c.tried.result ≡ c.yard.inside.key.opening.yard.tried = c.tried.ensures ∙ (λ i. (c.key.view_is i).opening.yard.tried) in
    omega (arith, count.0, count.2, row, tried)

pub overflow_cast-moves : goal.overflow_cast-moves
overflow_cast-moves c =
    let count = tally (goal.at.overflow_cast-moves c).After-close_with-closed c.index.result.now c.index.ensures in
    let all : c.len-2.result ≡ length c.args.lines.items = search rules in
    omega (arith, count.1, count.2, count.3, all)

pub overflow_sub-moves : goal.overflow_sub-moves
overflow_sub-moves c =
    let count = tally (goal.at.overflow_sub-moves c).After-close_with-closed c.index.result.now c.index.ensures in
    let row : c.len.result ≡ length c.index.result.now.items = search rules in
    let tried : c.tried.result ≡ c.yard.inside.key.opening.yard.tried = c.tried.ensures ∙ (λ i. (c.key.view_is i).opening.yard.tried) in
    let all : c.len-2.result ≡ length c.args.lines.items = search rules in
    omega (arith, count.0, count.1, count.2, count.3, row, tried, all)

pub returns : goal.returns
returns c =
    let closed = (goal.at.returns c).After-close_with-closed in
    let count = tally closed c.index.result.now c.index.ensures in
    let row : c.len.result ≡ length c.index.result.now.items = search rules in
    let tried : c.tried.result ≡ c.yard.inside.key.opening.yard.tried = c.tried.ensures ∙ (λ i. (c.key.view_is i).opening.yard.tried) in
    let all : c.len-2.result ≡ length c.args.lines.items = search rules in
    let inv = c.loop-train.invariant in
    let whole : length c.loop-train.positions ≡ length (end closed).positions = inv.size ∙ long closed in
    let places : c.loop-train.positions ≡ (end closed).positions = same_number_lists c.loop-train.positions (end closed).positions whole
    (λ i lt. inv.read i (omega (arith, lt, inv.size, c.loop-train-test.false, c.len-train-end.ensures)) ∙ ap (λ (x : Root). place (state_after x.yard.setup x.seen).positions i) (sym c.root.view_is)) in
    let moves : ℕ = c.len-2.result - (c.tried.result + c.len.result) in
    let state : c.new-2.result ≡ record { yard = record { positions = c.loop-train.positions; table = c.word-table.result; tried = c.tried.result + c.len.result; moves = c.len-2.result - (c.tried.result + c.len.result) }; lines = c.args.lines.items } =
    c.new-2.ensures ∙ (λ i. record { yard = c.new.ensures i; lines = c.args.lines.items }) in
    subst (λ (x : Root × Plain). Closes x.0 x.1) (λ i. (c.root.view_is i, sym state i))
    (closes (v closed) (s closed) (k closed) (at closed) (nobody closed) c.root.inside.seat.table_id c.loop-train.positions c.word-table.result (c.tried.result + c.len.result) moves c.args.lines.items (opened closed)
    places (table_read closed c.word-table.result _ c.close_with-closed.ensures.values.2.2 c.word-table.ensures).0 (omega (arith, count.0, row, tried)) (lines_are closed) (omega (arith, all)))
