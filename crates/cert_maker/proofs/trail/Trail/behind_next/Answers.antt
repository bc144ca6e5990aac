use Rattle.cert_maker.proofs.Pieces.{piece_passed}
use Rattle.cert_maker.proofs.trail.Trail.behind_next.Goals as goal

pub returns-in-Some : goal.returns-in-Some
returns-in-Some c =
    let nodes = c.args.nodes.now in
    let trail = c.args.self.now in
    let here = c.is_here.ensures.0 c.if-not-is_here.false in
    let piece = c.in-Some.ensures in
    λ T B S on. piece_passed T nodes trail.at B S c.in-Some.end trail.follows (record { left = here.left; same = here.same }) piece on
