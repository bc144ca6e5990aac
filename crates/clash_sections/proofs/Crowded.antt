-- Why no sections are exact if a stand is free of itself and clashes with one.
use Rattle.std.proofs.Common.{◌≡◌, ◌≢◌, ℕ, zero, suc, List, [], ◌∷◌, All, Option, Some, replicate, refl, sym, ◌∙◌, ap, subst, arith, slice_index_or}
use Rattle.std.proofs.lemmas.List.Folds.{sum_by-replicate}
use Rattle.clash_sections.specs.declared.meetings.Meeting.{Meeting}
use Rattle.clash_sections.specs.declared.meetings.Meeting.TheVariants.{Free, Clash, Never}
use Rattle.clash_sections.specs.Stands.{stand, meeting, Meet}
use Rattle.clash_sections.specs.Sections.{StandSection, share, share_of, IsWithin, IsExact}
use Rattle.clash_sections.proofs.Bounds.{meeting-comm}

some-same : (a b : ℕ) → Some a ≡ Some b → a ≡ b
some-same a b e = cc

-- n trains, all on one stand
abbrev crowd : ℕ → ℕ → List (Option ℕ)
crowd n a = replicate n (Some a)

crowd-stand : (n a i x : ℕ) → stand (crowd n a) i ≡ Some x → x ≡ a
crowd-stand zero a i x e = cc
crowd-stand (suc n) a zero x e = cc
crowd-stand (suc n) a (suc i) x e = crowd-stand n a i x e

crowd-meet : (C : List (List Meeting)) (n a : ℕ) → meeting C a a ≡ Free → (x y : ℕ) → Meet (crowd n a) x y → meeting C x y ≡ Free
crowd-meet C n a free x y meet =
    let one : x ≡ a = crowd-stand n a meet.one x meet.one_stands in
    let other : y ≡ a = crowd-stand n a meet.other y meet.other_stands in
    ap (λ v. meeting C v y) one ∙ ap (meeting C a) other ∙ free

-- one train
one-meet : (a x y : ℕ) → Meet (Some a ∷ []) x y → ⊥
one-meet a x y meet = two meet.one meet.other meet.differ meet.one_stands meet.other_stands
  where
    two : (i j : ℕ) → i ≢ j → stand (Some a ∷ []) i ≡ Some x → stand (Some a ∷ []) j ≡ Some y → ⊥
    two zero zero d here there = d refl
    two zero (suc j) d here there = cc
    two (suc i) j d here there = cc

-- two trains
two-meet : (C : List (List Meeting)) (a b : ℕ) → meeting C a b ≡ Clash → (x y : ℕ) → Meet (Some a ∷ Some b ∷ []) x y → meeting C x y ≡ Clash
two-meet C a b clash x y meet = two meet.one meet.other meet.differ meet.one_stands meet.other_stands
  where
    two : (i j : ℕ) → i ≢ j → stand (Some a ∷ Some b ∷ []) i ≡ Some x → stand (Some a ∷ Some b ∷ []) j ≡ Some y → meeting C x y ≡ Clash
    two zero zero d here there = absurd (d refl)
    two zero (suc zero) d here there =
        let one : a ≡ x = cc in let other : b ≡ y = cc in
        subst (λ v. meeting C v y ≡ Clash) one (subst (λ w. meeting C a w ≡ Clash) other clash)
    two zero (suc (suc j)) d here there = cc
    two (suc zero) zero d here there =
        let one : b ≡ x = cc in let other : a ≡ y = cc in
        subst (λ v. meeting C v y ≡ Clash) one (subst (λ w. meeting C b w ≡ Clash) other (meeting-comm C b a ∙ clash))
    two (suc zero) (suc zero) d here there = absurd (d refl)
    two (suc zero) (suc (suc j)) d here there = cc
    two (suc (suc i)) j d here there = cc

-- a section that lets in any number of trains on a stand has no share for it
no-share : (s : StandSection) (a : ℕ) → ((n : ℕ) → IsWithin (crowd n a) s) → share s a ≡ 0
no-share s a within =
    let many = within (suc s.limit) in
    let sum = sum_by-replicate (share_of s) (suc s.limit) (Some a) in
    grind arith

pub crowded-none : (C : List (List Meeting)) (a b : ℕ) → meeting C a b ≡ Clash → meeting C a a ≡ Free
    → (S : List StandSection) → IsExact C S → ⊥
crowded-none C a b clash free S exact =
    (exact (Some a ∷ Some b ∷ [])
    (λ x y meet never. let e = two-meet C a b clash x y meet in let f : Clash ≡ Never = sym e ∙ never in cc)).0
    both a b (record { one = 0; other = 1; differ = λ e. omega arith; one_stands = refl; other_stands = refl }) clash
  where
    crowds : (n : ℕ) → All (IsWithin (crowd n a)) S
    crowds n = (exact (crowd n a)
        (λ x y meet never. let e = crowd-meet C n a free x y meet in let f : Free ≡ Never = sym e ∙ never in cc)).1
        (λ x y meet clashes. let e = crowd-meet C n a free x y meet in let f : Free ≡ Clash = sym e ∙ clashes in cc)

    alone : All (IsWithin (Some b ∷ [])) S
    alone = (exact (Some b ∷ []) (λ x y meet. absurd (one-meet b x y meet))).1 (λ x y meet. absurd (one-meet b x y meet))

    both : All (IsWithin (Some a ∷ Some b ∷ [])) S
    both k d l =
        let s : StandSection = slice_index_or S k d in
        let none = no-share s a (λ n. crowds n k d l) in
        let one : IsWithin (Some b ∷ []) s = alone k d l in
        omega (arith, none, one)
