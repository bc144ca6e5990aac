-- Why a section of tracks forbids no state in which no two trains' stands clash.
use Rattle.std.proofs.Common.{◌≡◌, ◌≢◌, ℕ, ◌<◌, ◌≤◌, Bool, true, List, length, All, Option, Some, None, refl, arith, ⊎_elim}
use Rattle.std.proofs.lemmas.Bool.{cases_lt}
use Rattle.std.proofs.lemmas.List.{get_or_past}
use Rattle.std.proofs.lemmas.List.Sums.{sum_by-le-sum_by, count_by-le-length}
use Rattle.clash_sections.specs.declared.meetings.Meeting.{Meeting}
use Rattle.clash_sections.specs.declared.meetings.Meeting.TheVariants.{Free, Clash, Never}
use Rattle.clash_sections.specs.Stands.{stand, meeting, Meet, IsApart, IsPossible}
use Rattle.clash_sections.specs.Sections.{StandSection, share, share_of, IsSized}
use Rattle.clash_sections.specs.Tracks.{is_on, IsTrack, IsOfTracks, IsSound, IsFit}
use Rattle.clash_sections.proofs.Alone.{train_on, train_count, IsAlone, sum-tracks}

free-else : (m : Meeting) → m ≢ Never → m ≢ Clash → m ≡ Free
free-else Free n c = refl
free-else Clash n c = absurd (c refl)
free-else Never n c = absurd (n refl)

-- a train on a track is on a stand of it
stand-on : (K : List Bool) (u : Option ℕ) → train_on K u ≡ true → (a : ℕ) × (u ≡ Some a) × (is_on K a ≡ true)
stand-on K None e = cc
stand-on K (Some a) e = (a, refl, e)

track-alone : (C : List (List Meeting)) (K : List Bool) (p : List (Option ℕ)) → IsTrack C K → IsPossible C p → IsApart C p → IsAlone p K
track-alone C K p track possible apart i j d here there =
    let one = stand-on K (stand p i) here in
    let other = stand-on K (stand p j) there in
    let meet : Meet p one.0 other.0 = record { one = i; other = j; differ = d; one_stands = one.1; other_stands = other.1 } in
    track one.0 other.0 one.2 other.2 (free-else (meeting C one.0 other.0) (possible one.0 other.0 meet) (apart one.0 other.0 meet))

share-past : (n : ℕ) (Ks : List (List Bool)) (s : StandSection) → IsOfTracks n Ks s → (a : ℕ) → n ≤ a → share s a ≡ 0
share-past n Ks s is a l = get_or_past s.shares a 0 (omega (arith, is.stands))

share-le : (n : ℕ) (Ks : List (List Bool)) (s : StandSection) → IsOfTracks n Ks s → (u : Option ℕ) → share_of s u ≤ train_count Ks u
share-le n Ks s is None = omega arith
share-le n Ks s is (Some a) = ⊎_elim (λ (l : a < n). omega (arith, is.shares a l))
    (λ (l : n ≤ a). omega (arith, share-past n Ks s is a l)) (cases_lt a n)

pub tracks-sound : (C : List (List Meeting)) (n : ℕ) (Ks : List (List Bool)) (s : StandSection) → All (IsTrack C) Ks → IsOfTracks n Ks s
    → IsSound C s
tracks-sound C n Ks s tracks is p possible apart =
    let shares = sum_by-le-sum_by (share_of s) (train_count Ks) p (share-le n Ks s is) in
    let all = sum-tracks p Ks (λ k d l. track-alone C _ p (tracks k d l) possible apart) in
    omega (arith, shares, all, is.limit)

pub tracks-sized : (n : ℕ) (Ks : List (List Bool)) (s : StandSection) → 1 ≤ length Ks → length Ks ≤ 4 → IsOfTracks n Ks s → IsSized n s
tracks-sized n Ks s some few is = record {
  some_limit = omega (arith, is.limit);
  few_limit = omega (arith, is.limit);
  stands = is.stands;
  shares = λ a. ⊎_elim (λ (l : a < n). omega (arith, is.shares a l, count_by-le-length (λ (K : List Bool). is_on K a) Ks))
      (λ (l : n ≤ a). omega (arith, share-past n Ks s is a l)) (cases_lt a n);
}

pub tracks-fit : (C : List (List Meeting)) (Ks : List (List Bool)) (s : StandSection) → All (IsTrack C) Ks → 1 ≤ length Ks → length Ks ≤ 4
    → IsOfTracks (length C) Ks s → IsFit C s
tracks-fit C Ks s tracks some few is = record {
  sound = tracks-sound C (length C) Ks s tracks is;
  sized = tracks-sized (length C) Ks s some few is;
}
