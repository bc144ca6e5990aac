-- The walk over the nodes in preorder: the boxes that are open, and the first node that isn't good.
use Rattle.std.specs.Prelude.{◌≡◌, ℕ, ◌+◌, ◌<◌, ◌≤◌, List, [], ◌∷◌, ◌++◌, length, Bool, true, false, Option, Some, None, All, slice_set}
use Rattle.rail_model.specs.declared.types.Node.{Node}
use Rattle.rail_model.specs.declared.types.Bad.{Bad}
use Rattle.rail_model.specs.Table.{Table, trains, last}
use Rattle.rail_model.specs.Certificate.{Range, IsGood, Refuses, index_of}
use Rattle.cert_checker.specs.declared.walk.Step.{Step}
use Rattle.cert_checker.specs.declared.faults.CheckFault.{CheckFault}
use Rattle.cert_checker.specs.declared.faults.CheckFault.TheVariants.{Memory, Bad as BadNode}
use Rattle.cert_tree.specs.Open.{opened}

-- A step gives a train of the table a range of its places.
pub record IsStepOf (T : Table) (step : Step) : Type 0 where
  pub train : step.train < trains T
  pub some : step.span.lo ≤ step.span.hi
  pub in_range : step.span.hi ≤ last T step.train

-- the train of the next step
abbrev pub next_train : List Step → Option ℕ
next_train [] = None
next_train (step ∷ later) = Some step.train

-- a box before others, where it is to be visited
abbrev pub shown : Bool → List Range → List (List Range) → List (List Range)
shown true B later = B ∷ later
shown false B later = later

-- the boxes that are visited when the steps are made, one after the other
abbrev pub waiting : List Range → List Step → List (List Range)
waiting B [] = []
waiting B (step ∷ later) = shown step.visit (slice_set B step.train step.span) (waiting (slice_set B step.train step.span) later)

-- the nodes in preorder, each with the box that is open first
abbrev pub walked : List (List Range) → List Node → List (List Range × Node)
walked [] nodes = []
walked (B ∷ later) [] = []
walked (B ∷ later) (n ∷ nodes) = (B, n) ∷ walked (opened B n later) nodes

-- Of these visits, the first of which has this index, the first that isn't good.
pub record IsFirstBad (T : Table) (visits : List (List Range × Node)) (first : ℕ) (fault : Bad) : Type 0 where
  pub box : List Range
  pub node : Node
  pub front : List (List Range × Node)
  pub rest : List (List Range × Node)
  pub spelled : visits ≡ front ++ (box, node) ∷ rest
  pub index : index_of fault ≡ first + length front
  pub earlier : All (λ v. IsGood T v.0 v.1) front
  pub refused : Refuses T box node fault

-- Out of memory may come at any time; any other answer is the first bad visit.
abbrev pub StopsAt : Table → List (List Range × Node) → ℕ → CheckFault → Type 0
StopsAt T visits first Memory = Unit {0}
StopsAt T visits first (BadNode e) = IsFirstBad T visits first e

-- The node is refused in the box, for the first cause.
abbrev pub IsRefusal : Table → List Range → Node → ℕ → CheckFault → Type 0
IsRefusal T B n index Memory = ⊥
IsRefusal T B n index (BadNode e) = Refuses T B n e × (index_of e ≡ index)
