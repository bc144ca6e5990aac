-- Levels grow by one that is twice as wide as the last.
use Rattle.std.proofs.Common.{◌≡◌, ℕ, ◌+◌, ◌-◌, ◌*◌, ◌<◌, List, [], ◌∷◌, ◌++◌, length, sym, ◌∙◌, ap, subst, arith, inl, inr, length-append}
use Rattle.std.proofs.lemmas.Bool.{cases_eq}
use Rattle.rail_model.specs.Table.{Table}
use Rattle.state_boxes.specs.Extremes.{Level, no_level, level_at, IsLevel, IsGrowing}
use Rattle.state_boxes.proofs.Each.{at_last, at_early}

pub grown : (T : Table) (i : ℕ) (levels : List Level) (L : Level) → IsGrowing T i levels → IsLevel T i L
    → L.width ≡ 2 * (level_at levels (length levels - 1)).width → IsGrowing T i (levels ++ L ∷ [])
grown T i levels L before here wide = record {
  each_level = λ k lt. elim (cases_eq k (length levels)) [
    | inl same ↦ subst (IsLevel T i) (sym (at_last levels L no_level k same)) here
    | inr other ↦
        let early : k < length levels = omega (arith, longer) in
        subst (IsLevel T i) (sym (at_early levels L no_level k early)) (before.each_level k early)
  ];
  some_level = omega (arith, longer);
  single = ap (λ (x : Level). x.width) (at_early levels L no_level 0 before.some_level) ∙ before.single;
  doubled = λ k lt. elim (cases_eq (k + 1) (length levels)) [
    | inl same ↦
        let k_is : k ≡ length levels - 1 = omega (arith, same) in
        let at_k : (level_at levels k).width ≡ (level_at levels (length levels - 1)).width = ap (λ (j : ℕ). (level_at levels j).width) k_is in
        let kept : (level_at (levels ++ L ∷ []) k).width ≡ (level_at levels k).width =
        ap (λ (x : Level). x.width) (at_early levels L no_level k (omega (arith, same))) in
        let added : (level_at (levels ++ L ∷ []) (k + 1)).width ≡ L.width = ap (λ (x : Level). x.width) (at_last levels L no_level (k + 1) same) in
        omega (arith, at_k, kept, added, wide)
    | inr other ↦
        let early : k + 1 < length levels = omega (arith, longer) in
        let old = before.doubled k early in
        let kept : (level_at (levels ++ L ∷ []) k).width ≡ (level_at levels k).width =
        ap (λ (x : Level). x.width) (at_early levels L no_level k (omega (arith, early))) in
        let next : (level_at (levels ++ L ∷ []) (k + 1)).width ≡ (level_at levels (k + 1)).width =
        ap (λ (x : Level). x.width) (at_early levels L no_level (k + 1) early) in
        omega (arith, old, kept, next)
  ];
  few =
      let top : (level_at (levels ++ L ∷ []) (length (levels ++ L ∷ []) - 1)).width ≡ L.width =
      ap (λ (x : Level). x.width) (at_last levels L no_level (length (levels ++ L ∷ []) - 1) (omega (arith, longer))) in
      omega (arith, top, wide, longer, before.few, before.some_level);
}
  where
    longer : length (levels ++ L ∷ []) ≡ length levels + 1
    longer = length-append levels (L ∷ [])
