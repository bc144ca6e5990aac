-- A table with guards, and how the search for a certificate of it ended.
use Rattle.std.specs.Prelude.{◌≡◌, ◌↔◌, All, ℕ, ◌<◌, ◌≤◌, ◌+◌, List, length}
use Rattle.rail_model.specs.Table.{Table, section}
use Rattle.rail_model.specs.State.{Legal}
use Rattle.rail_model.specs.Move.{Stuck as IsStuck}
use Rattle.rail_model.specs.Certificate.{Tree, Accepts}
use Rattle.forbidden_states.specs.Forbid.{Stay}
use Rattle.state_core.specs.Core.{CanArrive}
use Rattle.state_core.specs.Guard.{guarded, IsGuard}
use Rattle.section_protect.specs.declared.finder.Finding.{Finding}
use Rattle.section_protect.specs.declared.finder.Finding.TheVariants.{Cert as found_cert, Stuck as found_stuck, GaveUp as found_none}
use Rattle.section_protect.specs.declared.protected.Ended.{Ended}
use Rattle.section_protect.specs.declared.protected.Ended.TheVariants.{Certified, GaveUp, Full, Spent}
use Rattle.section_protect.specs.declared.protected.Protected.{Protected}

-- What is found holds of the table: it accepts a certificate, and a state is stuck.
abbrev pub IsFoundOf : Table → Finding → Type 0
IsFoundOf T (found_cert c) = Accepts T c
IsFoundOf T (found_stuck p) = IsStuck T p
IsFoundOf T (found_none nodes) = Unit {0}

-- The table has these guards behind its own sections, as far as a table has room.
pub record IsGuarded (T : Table) (guards : List (List Stay)) (made : Table) : Type 0 where
  pub guards_are : All (IsGuard T) guards
  pub few : length T.sections + length guards ≤ 64
  pub made_is : made ≡ guarded T guards

-- How it ended: the table accepts a certificate; the search gave up; or a state is stuck, where the table has no room
-- for a section more, or no more rounds were to be made.
abbrev pub Ends : Table → Ended → Type 0
Ends T (Certified c) = Accepts T c
Ends T (GaveUp nodes) = Unit {0}
Ends T (Full p) = IsStuck T p × (length T.sections ≡ 64)
Ends T (Spent p) = IsStuck T p

-- What a table becomes.
pub record Protects (T : Table) (r : Protected) : Type 0 where
  pub guarded_is : IsGuarded T r.guards.items r.table
  pub ended_is : Ends r.table r.ended

-- The table's own sections stay first and unchanged, and so do its missions and its connections.
pub record KeepsTable (T made : Table) : Type 0 where
  pub missions_are : made.missions ≡ T.missions
  pub connections_are : made.connections ≡ T.connections
  pub sections_are : (s : ℕ) → s < length T.sections → section made s ≡ section T s
  pub no_fewer : length T.sections ≤ length made.sections

-- From a legal state all trains can arrive exactly where it stays legal and all can arrive with the guards.
abbrev pub LosesNothing : Table → Table → Type 0
LosesNothing T made = (p : List ℕ) → Legal T p → CanArrive T p ↔ (Legal made p × CanArrive made p)

-- What each protected table keeps.
abbrev pub ProtectedTablesLoseNothing : Type 0
ProtectedTablesLoseNothing =
    (T made : Table) (guards : List (List Stay)) → IsGuarded T guards made → KeepsTable T made × LosesNothing T made

-- With a certificate the legal states are exactly those from which all trains can arrive.
abbrev pub CertifiedTablesAreExact : Type 0
CertifiedTablesAreExact =
    (T made : Table) (guards : List (List Stay)) (c : Tree) (p : List ℕ) → IsGuarded T guards made → Accepts made c →
    Legal T p →
    Legal made p ↔ CanArrive T p
