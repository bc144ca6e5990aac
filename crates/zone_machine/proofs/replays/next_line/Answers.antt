use Rattle.zone_machine.proofs.Prelude.{◌≡◌, None, sym, ◌∙◌, subst, ◌<◌, last, point}
use Rattle.zone_machine.proofs.Replaying.{has_point}
use Rattle.zone_machine.proofs.replays.next_line.Goals as goal

pub unreachable-requires : goal.unreachable-requires
unreachable-requires c =
    let none : point c.args.table.now c.args.train c.place-place.result ≡ None = sym c.point_of.ensures ∙ c.in_default.is in
    has_point c.args.table.now c.args.train c.place-place.result (subst (λ k. k < last c.args.table.now c.args.train) (sym c.place-place.ensures) c.requires.unfinished) none
