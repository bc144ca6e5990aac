use Rattle.std.proofs.Common.{◌≡◌, ◌≢◌, ℕ, ◌<◌, true}
use Rattle.clash_sections.specs.declared.meetings.Meeting.TheVariants.{Free}
use Rattle.clash_sections.specs.Stands.{meeting}
use Rattle.clash_sections.specs.Tracks.{is_on}
use Rattle.clash_sections.proofs.tracks.Track.shuts.Given as goal

abbrev pub invariant-loop-other : goal.invariant-loop-other
invariant-loop-other l = (b : ℕ) → b < l.other → is_on l.self b ≡ true → meeting l.clashes l.stand b ≢ Free
