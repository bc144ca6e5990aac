use Rattle.std.proofs.Common.{◌∙◌, ap, sym}
use Rattle.std.specs.List.{list_all}
use Rattle.plan_crossed.specs.Said.{has_tracks}
use Rattle.plan_crossed.proofs.Carried.{all_view}
use Rattle.plan_crossed.proofs.entries.have_tracks.Goals as goal

pub returns : goal.returns
returns c = c.all_have_tracks.ensures ∙ sym (all_view has_tracks c.entries_at.result.now) ∙ ap (list_all has_tracks) c.entries_at.ensures
