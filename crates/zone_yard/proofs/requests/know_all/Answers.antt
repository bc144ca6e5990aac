use Rattle.zone_yard.proofs.Prelude.{◌≡◌, ◌<◌, ◌≤◌, ◌^◌, ◌∙◌, [], length, true, refl, sym, ap, subst, inl, inr, arith, slice_get, number_of, first_unknown, put, Footprint, may_read, Seat, core, AreAllSmall}
use Rattle.rail_model.proofs.Found.{Among}
use Rattle.move_claim.specs.declared.cells.Cell.TheVariants.{Table as TableCell}
use Rattle.move_claim.proofs.Amongs.{Among-get}
use Rattle.zone_machine.proofs.OwnSteps.{number_of-put_same}
use Rattle.zone_yard.proofs.CellLists.{put-small}
use Rattle.zone_yard.proofs.FootprintCells.{later_cells, few_cells, no_table, guarded, some_held, tail_of, tail_known}
use Rattle.zone_yard.proofs.requests.know_all.Goals as goal

pub read_table-requires-clause-guard : goal.read_table-requires-clause-guard
read_table-requires-clause-guard c =
    (guarded c.args.yard.now.setup c.args.wanted c.args.seat.now.me.view.actor c.args.footprint.now c.word_of-word.ensures.formed c.requires.train c.requires.listed
    c.requires.footprint c.requires.held TableCell (inl refl)).1

pub read_all-requires-clause-guard : goal.read_all-requires-clause-guard
read_all-requires-clause-guard c = λ k d e.
    let tail = tail_of TableCell (later_cells c.args.footprint.now.table c.args.footprint.now.claim) c.cells.result.now c.cells.ensures in
    let there : Among (later_cells c.args.footprint.now.table c.args.footprint.now.claim) d = Among-get _ k d (ap (λ l. slice_get l k) (sym tail) ∙ e) in
    let held = ap (λ (m : Seat). m.view.actor.held) c.read_table.ensures.reads in
    let may = guarded c.args.yard.now.setup c.args.wanted c.args.seat.now.me.view.actor c.args.footprint.now c.word_of-word.ensures.formed c.requires.train c.requires.listed
    c.requires.footprint c.requires.held d (inr there) in
    (may.0, subst (λ l. may_read (core c.args.yard.now.setup) l d ≡ true) (sym held) may.1)

pub read_all-requires-clause-known : goal.read_all-requires-clause-known
read_all-requires-clause-known c =
    let found : c.read_table.result ≡ c.args.wanted.table = omega (arith, c.if-read_table-wanted.false) in
    let few = c.word_of-word.ensures.formed.tables.few in
    let lt : c.args.wanted.table < 2 ^ 31 = omega (arith, c.requires.listed, few) in (
      c.put.ensures ∙ (λ i. put TableCell (sym found i) ((c.clear.ensures ∙ sym c.requires.nothing) i)) ∙ sym (ap (λ (m : Seat). m.view.actor.known) c.read_table.ensures.reads),
      subst AreAllSmall (sym (c.put.ensures ∙ ap (put TableCell c.args.wanted.table) c.clear.ensures)) (put-small TableCell c.args.wanted.table [] (λ d n e. absurd (cc e)) lt),
    )

pub read_all-requires-clause-room : goal.read_all-requires-clause-room
read_all-requires-clause-room c =
    let tail = tail_of TableCell (later_cells c.args.footprint.now.table c.args.footprint.now.claim) c.cells.result.now c.cells.ensures in
    let one = ap length (c.put.ensures ∙ ap (put TableCell c.args.wanted.table) c.clear.ensures) in
    let formed = c.word_of-word.ensures.formed.formed c.args.wanted.table c.requires.listed in
    let few : length (later_cells c.args.footprint.now.table c.args.footprint.now.claim) ≤ 100 =
    subst (λ (g : Footprint). length (later_cells g.table g.claim) ≤ 100) (sym c.requires.footprint) (few_cells _ _ formed (omega (arith, c.requires.steps))) in
    let long = ap length tail in
    omega (arith, one, few, long)

pub returns-clause-table : goal.returns-clause-table
returns-clause-table c = λ _.
    let tail = tail_of TableCell (later_cells c.args.footprint.now.table c.args.footprint.now.claim) c.cells.result.now c.cells.ensures in
    c.read_all.ensures.others TableCell (λ k d e. no_table c.args.footprint.now.table c.args.footprint.now.claim d (Among-get _ k d (ap (λ l. slice_get l k) (sym tail) ∙ e)))
    ∙ (ap (number_of TableCell) c.put.ensures ∙ number_of-put_same TableCell c.args.wanted.table c.clear.new.self)

pub returns-clause-cells : goal.returns-clause-cells
returns-clause-cells c = λ _.
    let tail = tail_of TableCell (later_cells c.args.footprint.now.table c.args.footprint.now.claim) c.cells.result.now c.cells.ensures in
    let table = c.read_all.ensures.others TableCell (λ k d e. no_table c.args.footprint.now.table c.args.footprint.now.claim d (Among-get _ k d (ap (λ l. slice_get l k) (sym tail) ∙ e)))
    ∙ (ap (number_of TableCell) c.put.ensures ∙ number_of-put_same TableCell c.args.wanted.table c.clear.new.self) in
    tail_known (later_cells c.args.footprint.now.table c.args.footprint.now.claim) c.read_all.new.known c.args.wanted.table table
    (ap (λ l. first_unknown l c.read_all.new.known) (sym tail) ∙ c.read_all.ensures.all)

pub returns-then-read_table-wanted-clause-some : goal.returns-then-read_table-wanted-clause-some
returns-then-read_table-wanted-clause-some c = λ e.
    some_held c.args.seat.now.me.view.actor.held
    (guarded c.args.yard.now.setup c.args.wanted c.args.seat.now.me.view.actor c.args.footprint.now c.word_of-word.ensures.formed c.requires.train c.requires.listed
    c.requires.footprint c.requires.held TableCell (inl refl)).1 (sym (ap (λ (m : Seat). m.view.actor.held) c.read_table.ensures.reads) ∙ e)

pub returns-clause-some : goal.returns-clause-some
returns-clause-some c = λ e.
    some_held c.args.seat.now.me.view.actor.held
    (guarded c.args.yard.now.setup c.args.wanted c.args.seat.now.me.view.actor c.args.footprint.now c.word_of-word.ensures.formed c.requires.train c.requires.listed
    c.requires.footprint c.requires.held TableCell (inl refl)).1
    (sym (ap (λ (m : Seat). m.view.actor.held) c.read_table.ensures.reads) ∙ (sym (ap (λ (m : Seat). m.view.actor.held) c.read_all.ensures.knows) ∙ e))
