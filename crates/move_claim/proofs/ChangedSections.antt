-- The sections that a claim changes.
use Rattle.std.proofs.Common.{◌≡◌, ℕ, ◌+◌, ◌<◌, true, ◌∙◌, length, arith}
use Rattle.std.proofs.lemmas.Bool.{and_parts}
use Rattle.std.specs.List.{list_any}
use Rattle.rail_model.specs.Table.{Table}
use Rattle.rail_model.proofs.Found.{Among-range}
use Rattle.zone_locks.specs.Zones.{has}
use Rattle.zone_locks.proofs.Filtered.{has-filter}
use Rattle.move_claim.specs.declared.cells.Cell.{Cell}
use Rattle.move_claim.specs.declared.claims.Claim.{Claim}
use Rattle.move_claim.specs.Claims.{is_changed, sections, reached}
use Rattle.move_claim.specs.Deciding.{overfills}
use Rattle.move_claim.proofs.Amongs.{any-Among}

module _ (T : Table) (c : Claim) (s : ℕ) (s_in : s < length T.sections) where
  -- a section that some step changes
  pub changed_by_some : list_any (is_changed T c.train s) (reached c) ≡ true → has s (sections T c) ≡ true
  changed_by_some h = has-filter (λ t. list_any (is_changed T c.train t) (reached c)) s (length T.sections) 0 (omega arith) (omega arith) ∙ h

  -- a section that step k changes
  pub changed_by : (k : ℕ) → k < c.steps → is_changed T c.train s (c.place + k + 1) ≡ true → has s (sections T c) ≡ true
  changed_by k lt h = changed_by_some
      (any-Among (is_changed T c.train s) (reached c) (c.place + k + 1) (Among-range c.steps (c.place + 1) (c.place + k + 1) (omega arith) (omega arith)) h)

  -- a section that step k overfills
  pub overfilled : (number : Cell → ℕ) (k : ℕ) → k < c.steps → overfills T c number k s ≡ true → has s (sections T c) ≡ true
  overfilled number k lt h = changed_by k lt (and_parts (is_changed T c.train s (c.place + k + 1)) _ h).0
