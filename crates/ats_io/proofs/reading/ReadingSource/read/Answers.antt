use Rattle.std.proofs.Common.{◌≡◌, ℕ, ◌∙◌, ap}
use Rattle.ats_io.specs.Adapted.{Adapted}
use Rattle.ats_io.specs.Faults.{next_count}
use Rattle.ats_io.proofs.reading.ReadingSource.read.Goals as goal

counts_on : {Device : Type 0} (count : ℕ) (inside seen : Adapted Device) → count ≡ next_count inside.faults → inside ≡ seen → count ≡ next_count seen.faults
counts_on count inside seen counted same = counted ∙ ap (λ s. next_count s.faults) same

pub returns-in-Err-clause-counted : goal.returns-in-Err-clause-counted
returns-in-Err-clause-counted g c = counts_on _ _ _ c.saturating_add-self-inside.ensures c.self.view_is
