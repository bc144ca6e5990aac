-- Rounds on their way.
use Rattle.std.specs.Prelude.{◌+◌, ◌≤◌, All, length}
use Rattle.rail_model.specs.Table.{Table}
use Rattle.state_core.specs.Guard.{IsGuard}
use Rattle.section_protect.specs.declared.rounds.Turn.{Turn}
use Rattle.section_protect.specs.declared.rounds.Turn.TheVariants.{Next, End}
use Rattle.section_protect.specs.Protects.{Protects}

-- What a round leads to: other guards, as far as a table has room, or the end.
abbrev pub LeadsOn : Table → Turn → Type 0
LeadsOn T (Next guards) = All (IsGuard T) guards.items × (length T.sections + length guards.items ≤ 64)
LeadsOn T (End r) = Protects T r

-- A further round follows.
abbrev pub IsNext : Turn → Type 0
IsNext (Next guards) = Unit {0}
IsNext (End r) = ⊥
