-- The section of two stands that clash, and sections that forbid each clash.
use Rattle.std.proofs.Common.{◌≡◌, ℕ, ◌+◌, ◌<◌, ◌≤◌, Bool, true, false, cond, List, [], ◌∷◌, ◌++◌, length, length-append, set, replicate, sym, ◌∙◌, ap, subst, arith, ⊎_elim, ◌⊎◌, inl, inr, get_or-set_same, get_or-set_other, length-set}
use Rattle.std.proofs.lemmas.List.{length-replicate, get_or-replicate, get_or_past, get_or_append_left}
use Rattle.std.proofs.lemmas.Bool.{cases_eq, cases_lt}
use Rattle.std.proofs.lemmas.List.Elements.{All-cons}
use Rattle.clash_sections.specs.declared.meetings.Meeting.{Meeting}
use Rattle.clash_sections.specs.declared.meetings.Meeting.TheVariants.{Clash}
use Rattle.clash_sections.specs.Stands.{meeting, IsOrderly}
use Rattle.clash_sections.specs.Sections.{StandSection, share, Forbids, SomeForbids}
use Rattle.clash_sections.specs.Tracks.{is_on, IsTrack, IsOfTracks, IsFit, AreEnough}
use Rattle.clash_sections.proofs.Bounds.{meeting-comm, clash-within, on-within}
use Rattle.clash_sections.proofs.Sound.{tracks-fit}

-- the track with two stands alone
abbrev pub two_on : ℕ → ℕ → ℕ → List Bool
two_on n a b = set (set (replicate n false) a true) b true

none-on : (n x : ℕ) → is_on (replicate n false) x ≡ true → ⊥
none-on n x on =
    ⊎_elim (λ (l : x < n). let off = get_or-replicate n x false false l in let e : false ≡ true = sym off ∙ on in cc)
    (λ (l : n ≤ x). let off = get_or_past (replicate n false) x false (omega (arith, length-replicate n false)) in
    let e : false ≡ true = sym off ∙ on in cc) (cases_lt x n)

on-set : (K : List Bool) (a x : ℕ) → is_on (set K a true) x ≡ true → (x ≡ a) ⊎ (is_on K x ≡ true)
on-set K a x on = elim (cases_eq x a) [ inl e ↦ inl e | inr differ ↦ inr (sym (get_or-set_other K a x true false differ) ∙ on) ]

set-on : (K : List Bool) (a : ℕ) → a < length K → is_on (set K a true) a ≡ true
set-on K a l = get_or-set_same K a true false l

on-kept : (K : List Bool) (a x : ℕ) → is_on K x ≡ true → is_on (set K a true) x ≡ true
on-kept K a x on = elim (cases_eq x a) [
  | inl e ↦ subst (λ y. is_on (set K a true) y ≡ true) (sym e) (set-on K a (subst (λ y. y < length K) e (on-within K x on)))
  | inr differ ↦ get_or-set_other K a x true false differ ∙ on
]

on-two : (n a b x : ℕ) → is_on (two_on n a b) x ≡ true → (x ≡ a) ⊎ (x ≡ b)
on-two n a b x on = elim (on-set (set (replicate n false) a true) b x on) [
  | inl e ↦ inr e
  | inr first ↦ elim (on-set (replicate n false) a x first) [ inl e ↦ inl e | inr none ↦ absurd (none-on n x none) ]
]

pub two-track : (C : List (List Meeting)) (a b : ℕ) → IsOrderly C → meeting C a b ≡ Clash → IsTrack C (two_on (length C) a b)
two-track C a b orderly clash x y x_on y_on free =
    let back : meeting C b a ≡ Clash = meeting-comm C b a ∙ clash in
    elim (on-two (length C) a b x x_on) [
      | inl x_is ↦ elim (on-two (length C) a b y y_on) [
        | inl y_is ↦ orderly a b clash (ap (λ v. meeting C v a) (sym x_is) ∙ ap (meeting C x) (sym y_is) ∙ free)
        | inr y_is ↦ let e : meeting C x y ≡ meeting C a b = ap (λ v. meeting C v y) x_is ∙ ap (meeting C a) y_is in cc
      ]
      | inr x_is ↦ elim (on-two (length C) a b y y_on) [
        | inl y_is ↦ let e : meeting C x y ≡ meeting C b a = ap (λ v. meeting C v y) x_is ∙ ap (meeting C b) y_is in cc
        | inr y_is ↦ orderly b a back (ap (λ v. meeting C v b) (sym x_is) ∙ ap (meeting C x) (sym y_is) ∙ free)
      ]
    ]

pub two-forbidden : (n a b : ℕ) (s : StandSection) → a < n → b < n → IsOfTracks n (two_on n a b ∷ []) s → Forbids a b s
two-forbidden n a b s a_in b_in is =
    let first : List Bool = set (replicate n false) a true in
    let a_on : is_on (two_on n a b) a ≡ true = on-kept first b a (set-on (replicate n false) a (omega (arith, length-replicate n false))) in
    let b_on : is_on (two_on n a b) b ≡ true =
    set-on first b (omega (arith, length-set (replicate n false) a true, length-replicate n false)) in
    let one : share s a ≡ 1 = is.shares a a_in ∙ ap (λ (v : Bool). 0 + cond v 1 0) a_on in
    let other : share s b ≡ 1 = is.shares b b_in ∙ ap (λ (v : Bool). 0 + cond v 1 0) b_on in
    omega (arith, one, other, is.limit)

pub some-kept : (S : List StandSection) (s : StandSection) (a b : ℕ) → SomeForbids S a b → SomeForbids (S ++ s ∷ []) a b
some-kept S s a b some =
    (some.0, some.1, omega (arith, some.2, length-append S (s ∷ [])), get_or_append_left S (s ∷ []) some.1 some.0 some.2 ∙ some.3, some.4)

pub some-either : (S : List StandSection) (a b : ℕ) → SomeForbids S a b → SomeForbids S b a
some-either S a b some = (some.0, some.1, some.2, some.3, omega (arith, some.4))

-- it is enough to forbid the clashes of each stand with those up to it
pub enough-below : (C : List (List Meeting)) (S : List StandSection)
    → ((a : ℕ) → a < length C → (b : ℕ) → b ≤ a → meeting C a b ≡ Clash → SomeForbids S a b) → AreEnough C S
enough-below C S below a b clash =
    let within = clash-within C a b clash in
    ⊎_elim (λ (l : a < b). some-either S b a (below b within.1 a (omega arith) (meeting-comm C b a ∙ clash)))
    (λ (l : b ≤ a). below a within.0 b l clash) (cases_lt a b)

pub two-put : (n m a b : ℕ) (K L J : List Bool) → m ≡ n → K ≡ replicate m false → L ≡ set K a true → J ≡ set L b true → J ≡ two_on n a b
two-put n m a b K L J size none first second = cc

-- the section of such a track
pub two-fit : (C : List (List Meeting)) (a b n : ℕ) (K : List Bool) (s : StandSection) → IsOrderly C → meeting C a b ≡ Clash
    → n ≡ length C → K ≡ two_on (length C) a b → IsOfTracks n (K ∷ []) s → IsFit C s
two-fit C a b n K s orderly clash size track is =
    let track_is : IsTrack C K = subst (IsTrack C) (sym track) (two-track C a b orderly clash) in
    tracks-fit C (K ∷ []) s (All-cons (IsTrack C) K [] track_is (λ k d l. absurd (omega arith))) (omega arith) (omega arith)
    (subst (λ m. IsOfTracks m (K ∷ []) s) size is)

pub two-forbids : (C : List (List Meeting)) (a b n : ℕ) (K : List Bool) (s : StandSection) → a < length C → b < length C
    → n ≡ length C → K ≡ two_on (length C) a b → IsOfTracks n (K ∷ []) s → Forbids a b s
two-forbids C a b n K s a_in b_in size track is =
    two-forbidden (length C) a b s a_in b_in
    (subst (λ J. IsOfTracks (length C) (J ∷ []) s) track (subst (λ m. IsOfTracks m (K ∷ []) s) size is))
