-- What the sections of a table keep to.
use Rattle.std.specs.Prelude.{ℕ, ◌<◌, ◌≤◌, ◌≤ℤ◌, pos, length}
use Rattle.rail_model.specs.Table.{Table, trains, last, limit, share}
use Rattle.section_marks.specs.declared.marks.Marks.{Marks}
use Rattle.section_marks.specs.Marking.{most_share, most_limit}

-- No limit and no share is above the greatest.
pub record KeepsTo (marks : Marks) (T : Table) : Type 0 where
  pub limits : (s : ℕ) → s < length T.sections → limit T s ≤ most_limit marks
  pub shares : (s i k : ℕ) → s < length T.sections → i < trains T → k ≤ last T i → share T i s k ≤ℤ pos (most_share marks)
