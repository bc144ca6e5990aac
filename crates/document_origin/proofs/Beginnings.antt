-- Lists that begin with others.
use Rattle.std.proofs.Common.{◌≡◌, ◌∙◌, ℕ, zero, suc, ◌<◌, List, [], ◌∷◌, ◌++◌, length, refl, ap, arith}
use Rattle.std.specs.Prelude.{Some, None, slice_get}
use Rattle.rail_model.specs.Table.{Section}
use Rattle.document_origin.specs.Origin.{BeginWith, ShareAlike}

-- sections that are those of the plan one by one begin with them
pub begin_alike : (planned sections : List Section) → ShareAlike sections planned (length planned) → BeginWith planned sections
begin_alike [] sections alike = (sections, refl)
begin_alike (x ∷ xs) [] alike = let none : None ≡ Some x = alike 0 (omega arith) in cc
begin_alike (x ∷ xs) (y ∷ ys) alike =
    let first : Some y ≡ Some x = alike 0 (omega arith) in
    let same : y ≡ x = cc in
    let later = begin_alike xs ys (λ k lt. alike (suc k) (omega (arith, lt))) in
    (later.0, ap (λ s. s ∷ ys) same ∙ ap (λ (ss : List Section). x ∷ ss) later.1)

-- sections that begin with those of the plan have each of them at its place
pub alike_begun : (planned sections : List Section) (s : ℕ) → s < length planned → BeginWith planned sections → slice_get sections s ≡ slice_get planned s
alike_begun [] sections s lt begins = absurd (omega (arith, lt))
alike_begun (x ∷ xs) sections zero lt begins = ap (λ ss. slice_get ss zero) begins.1
alike_begun (x ∷ xs) sections (suc s) lt begins =
    ap (λ ss. slice_get ss (suc s)) begins.1 ∙ alike_begun xs (xs ++ begins.0) s (omega (arith, lt)) (begins.0, refl)
