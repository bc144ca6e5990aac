use Rattle.std.proofs.Common.{◌≡◌, ◌∙◌, [], get_or, arith}
use Rattle.std.proofs.lemmas.List.{get_or_read}
use Rattle.plan_crossings.specs.Stands.{meet, meeting_of}
use Rattle.plan_crossings.proofs.Lists.{value_next}
use Rattle.plan_crossings.proofs.stands.row.Goals as goal

pub loop-other-preserved : goal.loop-other-preserved
loop-other-preserved c =
    let crossing = c.args.crossing.now in
    let stands = c.args.stands.now in
    let one : c.index-stands-other.result ≡ get_or stands c.loop-other.other [] =
    get_or_read stands c.loop-other.other c.index-stands-other.result (omega arith) c.index-stands-other.is [] in
    let other : c.index-stands-stand.result ≡ get_or stands c.args.stand [] =
    get_or_read stands c.args.stand c.index-stands-stand.result (omega arith) c.index-stands-stand.is [] in
    value_next (meeting_of crossing stands c.args.stand) c.loop-other.other c.loop-other.found.items c.push.new.self.items c.meet.result
    c.loop-other.invariant (c.meet.ensures ∙ (λ i. meet crossing (one i) (other i))) c.in_ok-push.ensures.items
