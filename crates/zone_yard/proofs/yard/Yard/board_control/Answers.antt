use Rattle.zone_yard.proofs.Prelude.{◌≡◌, ◌∙◌, length, ap, sym, subst, Yard, control, trains_of, Setup, SharedYard, core, Pass, IsPass}
use Rattle.zone_yard.proofs.yard.Yard.board_control.Goals as goal

pub invariant_of-result : goal.invariant_of-result
invariant_of-result c =
    let S : Setup = c.args.self.now.setup in
    let ours : c.args.root.now.yard.setup ≡ S = ap (λ (y : SharedYard). y.setup) c.requires in
    let made : c.seat_of-seat.result.me.view.setup ≡ S = ap (λ (p : Pass). p.yard.setup) c.seat_of-seat.ensures.pass ∙ ours in
    let tried_is : c.args.root.now.yard.setup.opening.yard.tried ≡ c.tried.result =
    ap (λ (T : Setup). T.opening.yard.tried) ours ∙ sym (c.tried.ensures ∙ ap (λ (y : Yard). y.tried) c.opening-2.ensures.given) in
    let formed = c.opening.ensures.formed in
    let places : length c.in-Ok-new.room.positions ≡ trains_of (core S) =
    c.in-Ok-new.ensures ∙ (ap length (c.positions.ensures ∙ ap (λ (y : Yard). y.positions) c.opening.ensures.given)
    ∙ (formed.opening.legal.one_each ∙ formed.tables.same S.opening.yard.table formed.opening.in_range)) in (
      record {
        pass = subst (λ n. IsPass control n 0 c.seat_of-seat.result.me) tried_is c.seat_of-seat.ensures.fresh;
        answered = sym (c.seat_of-seat.ensures.stands ∙ tried_is);
        one_each = places ∙ ap (λ (T : Setup). trains_of (core T)) (sym made);
      },
      c.seat_of-seat.ensures.lines c.in-Ok.receipts c.in-Ok.ensures.none c.in-Ok.ensures.room,
    )
