use Rattle.std.proofs.Common.{◌≡◌, None, take}
use Rattle.rail_model.specs.Turns.{first_below}
use Rattle.mission_table.specs.Seen.{names_seen}
use Rattle.mission_table.specs.Ways.{way_value, step_refusal, point_before, name_at}
use Rattle.mission_table.proofs.making.way.Given as goal

abbrev pub invariant-loop-place : goal.invariant-loop-place
invariant-loop-place l =
    (l.points.items ≡ way_value l.tracks (names_seen (take l.place l.names)))
    × (l.before ≡ point_before l.tracks (names_seen l.names) l.place)
    × (first_below l.place (λ k. step_refusal l.tracks l.train k (point_before l.tracks (names_seen l.names) k) (name_at (names_seen l.names) k)) ≡ None)
