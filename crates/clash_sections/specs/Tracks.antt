-- Tracks: a section of limit n is n tracks, and a stand's share is on how many of them it is.
use Rattle.std.specs.Prelude.{◌≡◌, ◌≢◌, ℕ, ◌<◌, List, length, count_by, Bool, true, false, Option, slice_index_or}
use Rattle.clash_sections.specs.declared.meetings.Meeting.{Meeting}
use Rattle.clash_sections.specs.declared.meetings.Meeting.TheVariants.{Free, Clash}
use Rattle.clash_sections.specs.Stands.{meeting, IsApart, IsPossible}
use Rattle.clash_sections.specs.Sections.{StandSection, share, IsWithin, IsSized, SomeForbids}

-- whether the stand is on the track
abbrev pub is_on : List Bool → ℕ → Bool
is_on K a = slice_index_or K a false

-- No two stands of the track are free, and none is free of itself: so it is used by one train at most.
abbrev pub IsTrack : List (List Meeting) → List Bool → Type 0
IsTrack C K = (a b : ℕ) → is_on K a ≡ true → is_on K b ≡ true → meeting C a b ≢ Free

-- on how many of the tracks the stand is
abbrev pub count_on : List (List Bool) → ℕ → ℕ
count_on Ks a = count_by (λ K. is_on K a) Ks

-- The section of n stands is that of the tracks.
pub record IsOfTracks (n : ℕ) (Ks : List (List Bool)) (s : StandSection) : Type 0 where
  pub limit : s.limit ≡ length Ks
  pub stands : length s.shares ≡ n
  pub shares : (a : ℕ) → a < n → share s a ≡ count_on Ks a

-- The section forbids no state in which no two trains' stands clash.
abbrev pub IsSound : List (List Meeting) → StandSection → Type 0
IsSound C s = (p : List (Option ℕ)) → IsPossible C p → IsApart C p → IsWithin p s

-- It is so, and one of a table.
pub record IsFit (C : List (List Meeting)) (s : StandSection) : Type 0 where
  pub sound : IsSound C s
  pub sized : IsSized (length C) s

-- Each clash is forbidden by one of the sections.
abbrev pub AreEnough : List (List Meeting) → List StandSection → Type 0
AreEnough C S = (a b : ℕ) → meeting C a b ≡ Clash → SomeForbids S a b
