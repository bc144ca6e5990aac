-- Rounds on their way.
use Rattle.std.specs.Prelude.{◌≡◌, ℕ, suc, ◌≤◌, List, length}
use Rattle.rail_model.specs.Table.{Mission, Table}
use Rattle.section_repair.specs.declared.rounds.Round.{Round}
use Rattle.section_repair.specs.declared.rounds.Turn.{Turn}
use Rattle.section_repair.specs.declared.rounds.Turn.TheVariants.{Next, End}
use Rattle.section_repair.specs.Repairs.{IsReached, Repairs}

-- Treating as many states as it says led to this round under its budget, and the former table has the same missions and
-- connections.
pub record IsUnderWay (M : List Mission) (r : Round) : Type 0 where
  pub reached : (states : List (List ℕ)) × IsReached M r.budget.nodes states r.sections.items r.table × (r.used ≡ length states)
  pub missions : r.former.missions ≡ r.table.missions
  pub connections : r.former.connections ≡ r.table.connections

-- What a round leads to under a budget, after which this many states were treated: one more round, within the rounds, or
-- the answer.
abbrev pub LeadsOn : List Mission → ℕ → ℕ → ℕ → Turn → Type 0
LeadsOn M budget rounds used (Next r) = IsUnderWay M r × (r.budget.nodes ≡ budget) × (r.used ≡ suc used) × (r.used ≤ rounds)
LeadsOn M budget rounds used (End repair) = Repairs M budget rounds repair

-- The next round, if there is one, has this table as its former one.
abbrev pub IsAfter : Table → Turn → Type 0
IsAfter T (Next r) = r.former ≡ T
IsAfter T (End repair) = Unit {0}
