use Rattle.std.proofs.Common.{◌∙◌, ap}
use Rattle.plan_document.specs.Tracks.{is_linked}
use Rattle.plan_document.proofs.tracks.is_track.Goals as goal

pub returns-in-Some : goal.returns-in-Some
returns-in-Some c =
    rw c.in-Some.is (c.is_linked.ensures ∙ ap (λ point. is_linked c.args.lines.now point c.args.here.now) c.as_str.ensures.value)
