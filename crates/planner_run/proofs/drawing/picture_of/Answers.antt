use Rattle.std.proofs.Common.{rules}
use Rattle.planner_run.proofs.drawing.picture_of.Goals as goal

pub returns-in_ok-text-in-Picture : goal.returns-in_ok-text-in-Picture
returns-in_ok-text-in-Picture c =
    record { picture = c.in-Picture.picture; legal = search rules; is_drawn = search rules; is_text = search rules }
