-- Numbers in decimal, digit by digit.
use Rattle.std.proofs.Common.{◌≡◌, ℕ, ◌+◌, ◌/◌, ◌%◌, ◌^◌, ◌<◌, ◌≤◌, ◌==◌, ◌&&◌, Bool, true, false, List, [], ◌∷◌, ◌++◌, length, take, drop, bytes_eq, decimal, refl, sym, ap, ◌∙◌, arith}
use Rattle.std.proofs.Math.Dec.{eqb-suc-zero}
use Rattle.std.proofs.lemmas.Fmt.{decimal_digit, decimal_step, decimal_nonempty}

never : (b : Bool) → (b && false) ≡ false
never true = refl
never false = refl

swapped : (a b c : Bool) → (a && (b && c)) ≡ (b && (a && c))
swapped true b c = refl
swapped false true c = refl
swapped false false c = refl

together : (a b c : Bool) → (a && (b && c)) ≡ ((a && b) && c)
together true b c = refl
together false b c = refl

longer : (xs : List ℕ) (x : ℕ) → bytes_eq (xs ++ x ∷ []) [] ≡ false
longer [] x = refl
longer (y ∷ xs) x = refl

shorter : (xs : List ℕ) (x : ℕ) → bytes_eq [] (xs ++ x ∷ []) ≡ false
shorter [] x = refl
shorter (y ∷ xs) x = refl

-- bytes before a last one
pub bytes_eq-last : (xs ys : List ℕ) (x y : ℕ) → bytes_eq (xs ++ x ∷ []) (ys ++ y ∷ []) ≡ ((x == y) && bytes_eq xs ys)
bytes_eq-last [] [] x y = refl
bytes_eq-last [] (b ∷ ys) x y = ap (λ r. (x == b) && r) (shorter ys y) ∙ never (x == b) ∙ sym (never (x == y))
bytes_eq-last (a ∷ xs) [] x y = ap (λ r. (a == y) && r) (longer xs x) ∙ never (a == y) ∙ sym (never (x == y))
bytes_eq-last (a ∷ xs) (b ∷ ys) x y = ap (λ r. (a == b) && r) (bytes_eq-last xs ys x y) ∙ swapped (a == b) (x == y) (bytes_eq xs ys)

-- a text that begins with another
pub bytes_eq_after : (said point rest : List ℕ) → bytes_eq said (point ++ rest) ≡ (bytes_eq (take (length point) said) point && bytes_eq (drop (length point) said) rest)
bytes_eq_after said [] rest = refl
bytes_eq_after [] (p ∷ point) rest = refl
bytes_eq_after (b ∷ said) (p ∷ point) rest =
    ap (λ r. (b == p) && r) (bytes_eq_after said point rest) ∙ together (b == p) (bytes_eq (take (length point) said) point) (bytes_eq (drop (length point) said) rest)

-- no bytes are no number
pub no_decimal : (bytes : List ℕ) (n : ℕ) → length bytes ≡ 0 → n < 2 ^ 64 → bytes_eq bytes (decimal n) ≡ false
no_decimal [] n none small = elim (decimal n) as (λ ds. 0 < length ds → bytes_eq [] ds ≡ false) [
  | [] ↦ λ some. absurd (omega (arith, some))
  | d ∷ ds ↦ λ some. refl
] (decimal_nonempty n small)
no_decimal (b ∷ bytes) n none small = absurd (omega (arith, none))

alone : (xs : List ℕ) → bytes_eq xs [] ≡ (length xs == 0)
alone [] = refl
alone (x ∷ xs) = sym (eqb-suc-zero (length xs))

-- the text of a number of one digit
pub decimal_one : (xs : List ℕ) (x n : ℕ) → n < 10 → bytes_eq (xs ++ x ∷ []) (decimal n) ≡ ((x == (48 + n % 10)) && (length xs == 0))
decimal_one xs x n low =
    let same : n % 10 ≡ n = omega arith in
    rw (decimal_digit n low, same, bytes_eq-last xs [] x (48 + n), alone xs)

-- the text of a number of more digits
pub decimal_more : (xs : List ℕ) (x n : ℕ) → 10 ≤ n → n < 2 ^ 64 → bytes_eq (xs ++ x ∷ []) (decimal n) ≡ ((x == (48 + n % 10)) && bytes_eq xs (decimal (n / 10)))
decimal_more xs x n high small = rw (decimal_step n high small, bytes_eq-last xs (decimal (n / 10)) x (48 + n % 10))

pub ruleset digits = (no_decimal, decimal_one, decimal_more)
