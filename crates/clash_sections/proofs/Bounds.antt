-- Which stands a clash and a track can have, and that a meeting goes both ways.
use Rattle.std.proofs.Common.{◌≡◌, ℕ, ◌<◌, ◌≤◌, max, min, Bool, true, false, List, [], length, ap, arith, ⊎_elim, slice_index_or}
use Rattle.std.proofs.lemmas.Bool.{cases_lt}
use Rattle.std.proofs.lemmas.List.{get_or_past}
use Rattle.std.proofs.Math.Nat.{max_comm, min_comm}
use Rattle.clash_sections.specs.declared.meetings.Meeting.{Meeting}
use Rattle.clash_sections.specs.declared.meetings.Meeting.TheVariants.{Free, Clash}
use Rattle.clash_sections.specs.Stands.{meeting}
use Rattle.clash_sections.specs.Tracks.{is_on}

pub meeting-comm : (C : List (List Meeting)) (a b : ℕ) → meeting C a b ≡ meeting C b a
meeting-comm C a b = let high = max_comm a b in let low = min_comm a b in cc

meeting-past : (C : List (List Meeting)) (a b : ℕ) → length C ≤ max a b → meeting C a b ≡ Free
meeting-past C a b l = ap (λ (row : List Meeting). slice_index_or row (min a b) Free) (get_or_past C (max a b) [] l)

-- only stands that are there clash
pub clash-within : (C : List (List Meeting)) (a b : ℕ) → meeting C a b ≡ Clash → (a < length C) × (b < length C)
clash-within C a b clash =
    ⊎_elim (λ (l : max a b < length C). (omega arith, omega arith))
    (λ (l : length C ≤ max a b). absurd (let free = meeting-past C a b l in cc)) (cases_lt (max a b) (length C))

-- only stands that it knows are on a track
pub on-within : (K : List Bool) (a : ℕ) → is_on K a ≡ true → a < length K
on-within K a on =
    ⊎_elim (λ (l : a < length K). l) (λ (l : length K ≤ a). absurd (let off = get_or_past K a false l in cc)) (cases_lt a (length K))
