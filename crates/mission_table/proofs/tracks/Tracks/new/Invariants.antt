use Rattle.std.proofs.Common.{◌≡◌, ℕ, ◌*◌, ◌<◌, length, take}
use Rattle.std.specs.List.{list_any}
use Rattle.mission_table.specs.Marks.{mark}
use Rattle.mission_table.proofs.Linked.{joins}
use Rattle.mission_table.proofs.tracks.Tracks.new.Given as goal

abbrev pub invariant-loop-link : goal.invariant-loop-link
invariant-loop-link l =
    (length l.marks.items ≡ l.points * l.points)
    × ((a b : ℕ) → b < l.points → mark l.points l.marks.items a b ≡ list_any (joins a b) (take l.link-index l.layout.links))
