use Rattle.std.proofs.Common.{map, ◌∙◌}
use Rattle.rail_model.specs.declared.types.Ask.TheVariants.{Yes}
use Rattle.rail_model.specs.Yard.{in_force}
use Rattle.rail_model.proofs.Asks.{told_once}
use Rattle.plain_yard.proofs.Moving.{after_other, adds_nothing}
use Rattle.plain_yard.proofs.rounds.go.Goals as goal

pub returns-in_default : goal.returns-in_default
returns-in_default g c =
    let tables = map g.A.HasTable.offer c.args.tables.now in
    let y = c.args.yard.now in
    let asked = c.ask_line.ensures in
    let other = c.in_default.not-Yes in
    record {
      went = (
        asked.after ∙ after_other y c.args.train c.ask_line.result other,
        adds_nothing tables y c.args.train c.ask_line.result _ _ other asked.adds,
        λ m. other (told_once (in_force tables y) y.positions c.args.train c.ask_line.result Yes c.requires.ready.stands.legal asked.answer m),
      );
      room = asked.room;
      ready = asked.ready;
    }
