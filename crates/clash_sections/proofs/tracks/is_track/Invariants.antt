use Rattle.std.proofs.Common.{◌≡◌, ◌≢◌, ℕ, ◌<◌, true}
use Rattle.clash_sections.specs.declared.meetings.Meeting.TheVariants.{Free}
use Rattle.clash_sections.specs.Stands.{meeting}
use Rattle.clash_sections.specs.Tracks.{is_on}
use Rattle.clash_sections.proofs.tracks.is_track.Given as goal

abbrev pub invariant-loop-stand : goal.invariant-loop-stand
invariant-loop-stand l = (a : ℕ) → a < l.stand → is_on l.track a ≡ true → (b : ℕ) → is_on l.track b ≡ true → meeting l.clashes a b ≢ Free
