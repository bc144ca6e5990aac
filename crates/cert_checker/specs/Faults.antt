-- What is said of a node, and of a certificate.
use Rattle.std.specs.Prelude.{◌≡◌, ℕ, List, Result, MatchResult}
use Rattle.rail_model.specs.declared.types.Node.{Node}
use Rattle.rail_model.specs.declared.types.Bad.{Bad}
use Rattle.rail_model.specs.Table.{Table}
use Rattle.rail_model.specs.Certificate.{Range, IsGood, Refuses, index_of, Tree, FirstBad}
use Rattle.cert_checker.specs.declared.faults.CheckFault.{CheckFault}
use Rattle.cert_checker.specs.declared.faults.CheckFault.TheVariants.{Memory, Bad as BadNode}

-- Good in this box, or refused there for the first cause.
abbrev pub Judges : Table → List Range → Node → ℕ → Result (Unit {0}) Bad → Type 0
Judges T B n index result = MatchResult result (λ _. IsGood T B n) (λ e. Refuses T B n e × (index_of e ≡ index))

-- Out of memory may come at any time; any other answer is the first bad node.
abbrev pub HasFault : Table → Tree → CheckFault → Type 0
HasFault T c Memory = Unit {0}
HasFault T c (BadNode e) = FirstBad T c e
