-- Sections by stands: which states they let in.
use Rattle.std.specs.Prelude.{ℕ, ◌≡◌, ◌+◌, ◌<◌, ◌≤◌, ◌↔◌, List, length, All, Any, sum_by, Option, Some, None, slice_index}
use Rattle.clash_sections.specs.declared.meetings.Meeting.{Meeting}
use Rattle.clash_sections.specs.Stands.{IsApart, IsPossible}

-- A section: how much of it all trains may take, and how much of it a train on each stand takes.
pub record StandSection : Type 0 where
  pub limit : ℕ
  pub shares : List ℕ

-- the share of a stand
abbrev pub share : StandSection → ℕ → ℕ
share s a = slice_index s.shares a

-- the share of a train, which may be on no stand
abbrev pub share_of : StandSection → Option ℕ → ℕ
share_of s None = 0
share_of s (Some a) = share s a

-- The trains' shares come to the limit at most.
abbrev pub IsWithin : List (Option ℕ) → StandSection → Type 0
IsWithin p s = sum_by (share_of s) p ≤ s.limit

-- Of the states without stands that never meet, the sections let in exactly those in which no two trains' stands clash.
abbrev pub IsExact : List (List Meeting) → List StandSection → Type 0
IsExact C S = (p : List (Option ℕ)) → IsPossible C p → All (IsWithin p) S ↔ IsApart C p

-- The section forbids that two trains are on the stands, one on each.
abbrev pub Forbids : ℕ → ℕ → StandSection → Type 0
Forbids a b s = s.limit < share s a + share s b

-- One of the sections does.
abbrev pub SomeForbids : List StandSection → ℕ → ℕ → Type 0
SomeForbids S a b = Any (Forbids a b) S

-- The section is one of a table: for n stands, with a limit of 1 to 4 and shares of at most 4.
pub record IsSized (n : ℕ) (s : StandSection) : Type 0 where
  pub some_limit : 1 ≤ s.limit
  pub few_limit : s.limit ≤ 4
  pub stands : length s.shares ≡ n
  pub shares : (a : ℕ) → share s a ≤ 4
