use Rattle.zone_yard.proofs.Prelude.{◌≡◌, ◌<◌, ◌==◌, sym, ap, ◌∙◌, subst, arith, ne_eqb, trains, place, offer, control, Setup, SharedYard, Pass, standing, IsPass}
use Rattle.zone_yard.proofs.Lists.{second_of}
use Rattle.zone_yard.proofs.LinesKept.{most_of_train}
use Rattle.zone_yard.proofs.yard.Yard.board.Goals as goal

pub invariant_of-result : goal.invariant_of-result
invariant_of-result c =
    let setup = c.self.invariant.formed in
    let trains_are = ap (λ (y : SharedYard). trains (offer y.setup.tables 0).table) (c.requires.ours ∙ sym c.self.view_is) in
    let few = (setup.formed 0 setup.tables.some).few_trains in
    let train = c.requires.train in
    let low : c.args.train < 32 = omega arith in
    let made : c.seat_of-seat.result.me.view.setup ≡ c.args.root.now.yard.setup = ap (λ (p : Pass). p.yard.setup) c.seat_of-seat.ensures.pass in
    let stands : standing c.args.root.now.yard.setup.opening.yard c.args.train ≡ c.place-position.result =
    second_of (c.args.train == control) c.args.root.now.yard.setup.opening.yard.tried (place c.args.root.now.yard.setup.opening.yard.positions c.args.train) (ne_eqb c.args.train control (λ e. omega (arith, e, low)))
    ∙ (ap (λ (y : SharedYard). place y.setup.opening.yard.positions c.args.train) (c.requires.ours ∙ sym c.self.view_is) ∙ sym c.place-position.ensures) in
    let most = most_of_train c.args.train low in (
      record {
        pass = subst (λ n. IsPass c.args.train n 0 c.seat_of-seat.result.me) stands c.seat_of-seat.ensures.fresh;
        named = subst (λ (S : Setup). c.args.train < trains (offer S.tables 0).table) (sym made) train;
      },
      c.seat_of-seat.ensures.lines c.in-Ok-Ok-Ok.receipts c.in-Ok-Ok-Ok.ensures.none (omega (arith, most, c.in-Ok-Ok-Ok.ensures.room)),
    )
