-- What the faults of a plan hold.
use Rattle.std.specs.Prelude.{Bool, ◌||◌, not, ◌==◌, length}
use Rattle.plan_entries.specs.declared.faults.Faults.{Faults}

-- whether a fault was told, or was lost because memory ran out
abbrev pub has_fault : Faults → Bool
has_fault f = not (length f.list.items == 0) || f.lost
