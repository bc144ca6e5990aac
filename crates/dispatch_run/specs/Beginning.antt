-- Why a session doesn't begin.
use Rattle.std.specs.Prelude.{◌≡◌, ◌⊎◌, ℕ}
use Rattle.live_header.specs.Opening.{RefusesHeader}
use Rattle.live_header.specs.Reading as reading
use Rattle.live_header.specs.Scan.{Header}
use Rattle.live_header.specs.declared.refused.Refused.TheVariants.{Memory}
use Rattle.live_header.specs.declared.scanning.Stage.TheVariants.{Live}
use Rattle.dispatch_run.specs.declared.failure.Failure.{Failure}
use Rattle.dispatch_run.specs.declared.failure.Failure.TheVariants as failure

-- The header opens nothing: it is refused, or there was no memory.
abbrev pub IsUnopened : Header → Failure → Type 0
IsUnopened h (failure.Header e) = (e ≡ Memory) ⊎ RefusesHeader h e
IsUnopened h e = ⊥

-- There is no whole header after so many bytes, for a cause; or the header is whole and opens nothing.
abbrev pub IsUnbegun : Header → ℕ → Type 0 → Type 0 → Failure → Type 0
IsUnbegun h count at_end failed (failure.Unread e) = reading.IsUnread h.stage count at_end failed e
IsUnbegun h count at_end failed (failure.Header e) = (h.stage ≡ Live) × ((e ≡ Memory) ⊎ RefusesHeader h e)
IsUnbegun h count at_end failed (failure.Broken e) = ⊥
