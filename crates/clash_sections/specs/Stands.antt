-- Stands of trains, what is known of each two of them, and states.
use Rattle.std.specs.Prelude.{◌≡◌, ◌≢◌, ℕ, max, min, List, [], Option, Some, None, slice_index_or}
use Rattle.clash_sections.specs.declared.meetings.Meeting.{Meeting}
use Rattle.clash_sections.specs.declared.meetings.Meeting.TheVariants.{Free, Clash, Never}

-- What is known of two stands, whichever is named first; what isn't said of two stands is that they are free. Row b of the
-- rows is of stand b with each stand up to b.
abbrev pub meeting : List (List Meeting) → ℕ → ℕ → Meeting
meeting C a b = slice_index_or (slice_index_or C (max a b) []) (min a b) Free

-- the stand of a train in a state, which has for each train its stand or none
abbrev pub stand : List (Option ℕ) → ℕ → Option ℕ
stand p i = slice_index_or p i None

-- Two different trains are on the stands, one on each.
pub record Meet (p : List (Option ℕ)) (a b : ℕ) : Type 0 where
  pub one : ℕ
  pub other : ℕ
  pub differ : one ≢ other
  pub one_stands : stand p one ≡ Some a
  pub other_stands : stand p other ≡ Some b

-- No two different trains are on stands that clash.
abbrev pub IsApart : List (List Meeting) → List (Option ℕ) → Type 0
IsApart C p = (a b : ℕ) → Meet p a b → meeting C a b ≢ Clash

-- No two different trains are on stands that never meet.
abbrev pub IsPossible : List (List Meeting) → List (Option ℕ) → Type 0
IsPossible C p = (a b : ℕ) → Meet p a b → meeting C a b ≢ Never

-- No stand that clashes with one is free of itself. If one were, no section could let any number of trains onto it, and keep them off
-- the other.
abbrev pub IsOrderly : List (List Meeting) → Type 0
IsOrderly C = (a b : ℕ) → meeting C a b ≡ Clash → meeting C a a ≢ Free
