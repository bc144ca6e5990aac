-- Whether the next table would take over now.
use Rattle.std.specs.Prelude.{◌≡◌, ◌↔◌, ℕ, ◌+◌, ◌≤◌, List, length, Bool, IsTrue}
use Rattle.rail_model.specs.declared.types.Tried.TheVariants as tried
use Rattle.rail_model.specs.Exchange.{Admits}
use Rattle.rail_model.specs.Yard.{Offer, Yard, in_force, next_offer, IsNextDue, IsOpen}
use Rattle.live_lines.specs.declared.tables.TableAnswer.{TableAnswer}
use Rattle.live_lines.specs.declared.tables.TableAnswer.TheVariants.{NoMore, Fits, Differs, Over}

-- The next table has this number, and this says whether it is due.
abbrev pub IsNextTable : List Offer → Yard → ℕ → Bool → Type 0
IsNextTable tables y t due = IsOpen tables y × (t ≡ y.tried + 1) × (IsTrue due ↔ IsNextDue tables y)

-- The answer to `fits`: what the next table would be told, if it were due.
abbrev pub IsFit : List Offer → Yard → TableAnswer → Type 0
IsFit tables y NoMore = length tables ≤ y.tried + 1
IsFit tables y (Fits t due) =
    IsNextTable tables y t due × Admits (in_force tables y) (next_offer tables y).table y.positions tried.Exchanged
IsFit tables y (Differs t due i k) =
    IsNextTable tables y t due × Admits (in_force tables y) (next_offer tables y).table y.positions (tried.Differs i k)
IsFit tables y (Over t due s n) =
    IsNextTable tables y t due × Admits (in_force tables y) (next_offer tables y).table y.positions (tried.Over s n)
IsFit tables y other = ⊥
