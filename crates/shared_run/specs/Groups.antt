-- What groups of passes come to.
use Rattle.std.specs.Prelude.{◌≡◌, ℕ}
use Rattle.zone_yard.specs.Setup.{SharedYard}
use Rattle.shared_run.specs.declared.groups.Group.{Group}
use Rattle.shared_run.specs.declared.groups.Group.TheVariants.{Drivers, Control}
use Rattle.shared_run.specs.Rounds.{AllOurs, Worked, Turned}

-- All passes of the group are the yard's.
abbrev pub IsOurGroup : SharedYard → Group → Type 0
IsOurGroup yard (Drivers drivers) = AllOurs yard drivers.items
IsOurGroup yard (Control control) = control.yard ≡ yard

-- The group made its rounds, in each of which a driver asks for this many steps at once, or the control its turns.
abbrev pub GroupWorked : ℕ → ℕ → Group → Group → Type 0
GroupWorked rounds steps (Drivers olds) (Drivers news) = Worked rounds steps olds.items news.items
GroupWorked rounds steps (Control old) (Control new) = Turned rounds old new
GroupWorked rounds steps old new = ⊥
