-- A reader or writer of std under a count of its faults.
use Rattle.std.specs.Prelude.{ℕ}

-- the device inside, and how often it has failed
pub record Adapted (Device : Type 0) : Type 0 where
  pub inner : Device
  pub faults : ℕ
