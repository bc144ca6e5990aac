-- Tables and their times, side by side.
use Rattle.std.proofs.Common.{◌≡◌, ℕ, zero, suc, ◌<◌, List, [], ◌∷◌, ◌++◌, length, get_or, map, refl, ap, arith}
use Rattle.document_json.specs.Doc.{DocTable}
use Rattle.document_json.specs.Keeps.{Untimed, untimed, timed}

pub length-timed : (ts : List Untimed) (xs : List (List (List ℕ))) → length ts ≡ length xs → length (timed ts xs) ≡ length ts
length-timed [] xs h = refl
length-timed (t ∷ ts) [] h = absurd cc
length-timed (t ∷ ts) (x ∷ xs) h = ap suc (length-timed ts xs (omega (arith, h)))

pub times-timed : (ts : List Untimed) (xs : List (List (List ℕ))) → length ts ≡ length xs → map (λ t. t.times) (timed ts xs) ≡ xs
times-timed [] [] h = refl
times-timed [] (x ∷ xs) h = absurd cc
times-timed (t ∷ ts) [] h = absurd cc
times-timed (t ∷ ts) (x ∷ xs) h = ap (λ ys. x ∷ ys) (times-timed ts xs (omega (arith, h)))

-- The table with its times is this one without them.
pub record IsUntimed (d : DocTable) (u : Untimed) : Type 0 where
  pub table : u.table ≡ d.table
  pub after : u.after ≡ d.after
  pub nodes : u.nodes ≡ d.nodes

pub timed-at : (ts : List Untimed) (xs : List (List (List ℕ))) (k : ℕ) (u : Untimed) (d : DocTable) → length ts ≡ length xs → k < length ts
    → u ≡ get_or ts k u → IsUntimed (get_or (timed ts xs) k d) u
timed-at [] xs k u d h lt is = absurd (omega (arith, lt))
timed-at (t ∷ ts) [] k u d h lt is = absurd cc
timed-at (t ∷ ts) (x ∷ xs) zero u d h lt is = record { table = ap (λ v. v.table) is; after = ap (λ v. v.after) is; nodes = ap (λ v. v.nodes) is }
timed-at (t ∷ ts) (x ∷ xs) (suc k) u d h lt is = timed-at ts xs k u d (omega (arith, h)) (omega (arith, lt)) is

pub timed-push : (ts : List Untimed) (xs : List (List (List ℕ))) (t : Untimed) (x : List (List ℕ)) → length ts ≡ length xs
    → timed (ts ++ t ∷ []) (xs ++ x ∷ []) ≡ timed ts xs ++ record { table = t.table; after = t.after; times = x; nodes = t.nodes } ∷ []
timed-push [] [] t x h = refl
timed-push [] (y ∷ ys) t x h = absurd cc
timed-push (s ∷ ss) [] t x h = absurd cc
timed-push (s ∷ ss) (y ∷ ys) t x h = ap (λ rest. record { table = s.table; after = s.after; times = y; nodes = s.nodes } ∷ rest) (timed-push ss ys t x (omega (arith, h)))

pub untimed-timed : (ts : List Untimed) (xs : List (List (List ℕ))) → length ts ≡ length xs → map untimed (timed ts xs) ≡ ts
untimed-timed [] xs h = refl
untimed-timed (t ∷ ts) [] h = absurd cc
untimed-timed (t ∷ ts) (x ∷ xs) h = ap (λ us. t ∷ us) (untimed-timed ts xs (omega (arith, h)))

pub afters-timed : (ts : List Untimed) (xs : List (List (List ℕ))) → length ts ≡ length xs → map (λ t. t.after) (timed ts xs) ≡ map (λ t. t.after) ts
afters-timed [] xs h = refl
afters-timed (t ∷ ts) [] h = absurd cc
afters-timed (t ∷ ts) (x ∷ xs) h = ap (λ ns. t.after ∷ ns) (afters-timed ts xs (omega (arith, h)))
