use Rattle.std.proofs.Common.{◌≡◌, None, take}
use Rattle.mission_table.specs.Seen.{ways_seen}
use Rattle.mission_table.specs.Ways.{missions_value, ways_refusal}
use Rattle.mission_table.proofs.making.each_mission.Given as goal

abbrev pub invariant-loop-train : goal.invariant-loop-train
invariant-loop-train l =
    (l.missions.items ≡ missions_value l.tracks (ways_seen (take l.train l.lists)) (take l.train l.exits))
    × (ways_refusal l.tracks l.train (ways_seen l.lists) l.exits ≡ None)
