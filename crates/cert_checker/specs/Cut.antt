-- A tree cut into parts: subtrees of which each has its own box.
use Rattle.std.specs.Prelude.{◌≡◌, ℕ, ◌+◌, ◌<◌, ◌≤◌, List, [], ◌∷◌, ◌++◌, length, drop, slice_index, slice_index_or, All, Result, Ok, Err, MatchResult}
use Rattle.rail_model.specs.declared.types.Node.{Node}
use Rattle.rail_model.specs.declared.types.Node.TheVariants.{Split}
use Rattle.rail_model.specs.Table.{Table}
use Rattle.rail_model.specs.Certificate.{Range, IsBox, IsGood, IsSplit}
use Rattle.state_boxes.specs.Sums.{AreLists, Lists}
use Rattle.std.specs.List.{AllZip, flat_map}
use Rattle.cert_checker.specs.declared.parts.Part.{Part}
use Rattle.cert_checker.specs.declared.loads.Load.{Load}
use Rattle.cert_checker.specs.declared.faults.CheckFault.{CheckFault}
use Rattle.cert_checker.specs.Walked.{walked, StopsAt}

-- a node and its box
abbrev pub Visited : Type 0
Visited = List Range × Node

-- The tree that begins at one index ends before the other, in whichever box it is visited.
abbrev pub IsEnd : List Node → ℕ → ℕ → Type 0
IsEnd nodes first end = (B : List Range) (later : List (List Range))
    → (walked (B ∷ later) (drop first nodes) ≡ walked (B ∷ []) (drop first nodes) ++ walked later (drop end nodes))
    × (first + length (walked (B ∷ []) (drop first nodes)) ≡ end)

-- the visits of a part's nodes
abbrev pub part_visits : List Node → Part → List (List Range × Node)
part_visits nodes part = walked (part.ranges ∷ []) (drop part.first nodes)

-- For each index from one on, up to the number of the nodes, the end of the tree that begins there.
pub record AreEndsFrom (from : ℕ) (nodes : List Node) (ends : List ℕ) : Type 0 where
  pub whole : length ends ≡ length nodes + 1
  pub each : (first : ℕ) → from ≤ first → first ≤ length nodes → IsEnd nodes first (slice_index ends first) × (slice_index ends first ≤ length nodes)

abbrev pub AreEnds : List Node → List ℕ → Type 0
AreEnds nodes ends = AreEndsFrom 0 nodes ends

-- A part begins at a node, with a box of the table.
pub record IsPart (T : Table) (nodes : List Node) (part : Part) : Type 0 where
  pub boxed : IsBox T part.ranges
  pub first : part.first ≤ length nodes

-- The visits from one index on are those of the parts, in order, and good ones between them.
abbrev pub IsCut : Table → List Node → ℕ → List Part → List (List Range × Node) → Type 0
IsCut T nodes at [] visits = All (λ v. IsGood T v.0 v.1) visits
IsCut T nodes at (part ∷ later) visits =
    (before : List (List Range × Node)) × (behind : List (List Range × Node))
    × (visits ≡ before ++ (part_visits nodes part ++ behind)) × All (λ v. IsGood T v.0 v.1) before × (part.first ≡ at + length before)
    × IsCut T nodes (part.first + length (part_visits nodes part)) later behind

-- Whatever the first parts cut, the second ones cut too.
abbrev pub IsCutFurther : Table → List Node → List Part → List Part → Type 0
IsCutFurther T nodes parts finer = (at : ℕ) (visits : List (List Range × Node)) → IsCut T nodes at parts visits → IsCut T nodes at finer visits

-- The lists are those of the table, and the nodes are at most a million.
pub record IsListed (T : Table) (lists : Lists) (nodes : List Node) : Type 0 where
  pub listed : AreLists T lists
  pub few : length nodes ≤ 1000000

-- The part's first node is a split that parts its box.
pub record IsDivided (T : Table) (nodes : List Node) (part : Part) (i m : ℕ) : Type 0 where
  pub there : part.first < length nodes
  pub node : slice_index_or nodes part.first (Split 0 0) ≡ Split i m
  pub splits : IsSplit T part.ranges i m

-- All nodes of the part are good, or the first that isn't.
abbrev pub IsChecked : Table → List Node → Part → Result (Unit {0}) CheckFault → Type 0
IsChecked T nodes part answer =
    MatchResult answer (λ _. All (λ v. IsGood T v.0 v.1) (part_visits nodes part)) (StopsAt T (part_visits nodes part) part.first)

-- the first fault of the answers
abbrev pub first_fault : List (Result (Unit {0}) CheckFault) → Result (Unit {0}) CheckFault
first_fault [] = Ok tt
first_fault (Ok u ∷ later) = first_fault later
first_fault (Err e ∷ later) = Err e

-- the parts of loads, in order
abbrev pub parts_of : List Load → List Part
parts_of loads = flat_map (λ load. load.parts.now) loads

abbrev pub IsLoad : Table → List Node → Load → Type 0
IsLoad T nodes load = All (λ p. IsPart T nodes p) load.parts.now

-- The first fault of parts that are checked one after the other. Those after it need not be checked.
abbrev pub ArePartsChecked : Table → List Node → List Part → Result (Unit {0}) CheckFault → Type 0
ArePartsChecked T nodes parts answer =
    (answers : List (Result (Unit {0}) CheckFault)) × AllZip (λ p r. IsChecked T nodes p r) parts answers × (answer ≡ first_fault answers)

abbrev pub IsLoadChecked : Table → List Node → Load → Result (Unit {0}) CheckFault → Type 0
IsLoadChecked T nodes load answer = ArePartsChecked T nodes load.parts.now answer
