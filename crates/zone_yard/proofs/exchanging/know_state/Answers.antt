use Rattle.zone_yard.proofs.Prelude.{◌∙◌, sym, ap, Seat, core}
use Rattle.zone_yard.proofs.FootprintCells.{some_held}
use Rattle.zone_yard.proofs.Turning.{holds_them, not_bare}
use Rattle.zone_yard.proofs.exchanging.know_state.Goals as goal

pub read_positions-requires-clause-guard : goal.read_positions-requires-clause-guard
read_positions-requires-clause-guard c =
    holds_them (core c.args.yard.now.setup) c.read_table-table.new.seat.me.view.actor.held (ap (λ (m : Seat). m.view.actor.held) c.read_table-table.ensures.reads ∙ c.requires.held)

pub returns-clause-some : goal.returns-clause-some
returns-clause-some c = λ e.
    some_held c.args.seat.now.me.view.actor.held
    (not_bare c.args.yard.now.setup.layout.zones c.args.seat.now.me.view.actor.held c.requires.held c.word_of-word.ensures.formed.layout.some_zone)
    (sym (ap (λ (m : Seat). m.view.actor.held) c.read_table-table.ensures.reads) ∙ (sym (ap (λ (m : Seat). m.view.actor.held) c.read_positions.ensures.knows) ∙ e))
