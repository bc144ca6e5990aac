use Rattle.std.proofs.Common.{◌≡◌, ℕ, ◌<◌, ◌&&◌, true, map, take, get_or, String, Global, string_bytes}
use Rattle.track_layout.specs.Making.{link_value, is_known}
use Rattle.track_layout.specs.Seen.{links_seen}
use Rattle.track_layout.proofs.making.joined.Given as goal

abbrev pub invariant-loop-index : goal.invariant-loop-index
invariant-loop-index l =
    (l.joined.items ≡ map (link_value l.numbers) (links_seen (take l.index l.links)))
    × ((k : ℕ) (d : String Global × String Global) → k < l.index
    → (is_known l.numbers (string_bytes (get_or l.links k d).0) && is_known l.numbers (string_bytes (get_or l.links k d).1)) ≡ true)
