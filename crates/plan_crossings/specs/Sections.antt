-- Sections by shares at places: which states they let in.
use Rattle.std.specs.Prelude.{ℕ, ◌≡◌, ◌+◌, ◌<◌, ◌≤◌, ◌↔◌, List, [], length, map, All, sum_by, slice_index, slice_index_or, if◌then◌else◌}
use Rattle.plan_document.specs.declared.plan.SectionPlan.{SectionPlan}
use Rattle.plan_crossings.specs.Crossings.{Crossing, below}
use Rattle.plan_crossings.specs.States.{Route, route_of, place, AreApart, WaysAgree}

-- A section: how much of it all trains may take, and for each train how much of it the train takes at each place of its route.
pub record WaySection : Type 0 where
  pub limit : ℕ
  pub shares : List (List ℕ)

-- a section of a plan as such a one
abbrev pub seen_section : SectionPlan → WaySection
seen_section s = record { limit = s.limit; shares = map (λ v. v.items) s.shares.items }

-- the share of a train at a place
abbrev pub share : WaySection → ℕ → ℕ → ℕ
share s i k = slice_index (slice_index_or s.shares i []) k

-- The trains' shares come to the limit at most.
abbrev pub IsWithin : List Route → List ℕ → WaySection → Type 0
IsWithin routes p s = sum_by (λ i. share s i (place p i)) (below (length routes)) ≤ s.limit

-- Of the states in which no two trains are at one point, the sections let in exactly those in which the ways agree that trains are on.
abbrev pub IsExact : List Crossing → List Route → List WaySection → Type 0
IsExact crossings routes S = (p : List ℕ) → AreApart routes p → All (IsWithin routes p) S ↔ All (WaysAgree routes p) crossings

-- Of these states they let in exactly those in which the ways of this crossing agree.
abbrev pub IsExactFor : Crossing → List Route → List WaySection → Type 0
IsExactFor c routes S = (p : List ℕ) → AreApart routes p → All (IsWithin routes p) S ↔ WaysAgree routes p c

-- how many places a route has, with the one after an exit
abbrev pub places : Route → ℕ
places r = length r.points + (if r.exits then 1 else 0)

-- The section is one of a table: a limit of 1 to 4, and a share of at most 4 for each train and place.
pub record IsSized (routes : List Route) (s : WaySection) : Type 0 where
  pub some_limit : 1 ≤ s.limit
  pub few_limit : s.limit ≤ 4
  pub trains : length s.shares ≡ length routes
  pub per_place : (i : ℕ) → i < length routes → length (slice_index_or s.shares i []) ≡ places (route_of routes i)
  pub few_shares : (i k : ℕ) → share s i k ≤ 4
