use Rattle.std.proofs.Common.{◌≡◌, ℕ, ◌<◌, length, slice_index}
use Rattle.clash_sections.specs.Tracks.{count_on}
use Rattle.clash_sections.proofs.tracks.section_of.Given as goal

abbrev pub invariant-loop-stand : goal.invariant-loop-stand
invariant-loop-stand l = record {
  many : length l.shares.items ≡ l.stand;
  counts : (a : ℕ) → a < l.stand → slice_index l.shares.items a ≡ count_on l.tracks a;
}
